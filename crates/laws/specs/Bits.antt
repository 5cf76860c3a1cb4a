-- The binary digits of a number.
use Rattle.std.specs.Prelude.{ℕ, ◌/◌, ◌%◌, ◌^◌}

-- digit z, from the lowest: 0 or 1
unfoldable pub bit : ℕ → ℕ → ℕ
bit n z = n / 2 ^ z % 2
