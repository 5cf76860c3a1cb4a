-- Four numbers in the four lanes of a coefficient.
use Rattle.std.specs.Prelude.{ℕ, ◌+◌, ◌*◌, ◌^◌}

-- four numbers at 1, 2^16, 2^32 and 2^48
abbrev pub placed : ℕ → ℕ → ℕ → ℕ → ℕ
placed a b c d = a + 2 ^ 16 * b + 2 ^ 32 * c + 2 ^ 48 * d
