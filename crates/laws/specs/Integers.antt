-- Integers modulo m.
use Rattle.std.specs.Prelude.{ℕ, suc, ◌-◌, ◌%◌, ℤ, pos, negsuc}

-- the remainder of an integer on division by m
unfoldable pub residue : ℕ → ℤ → ℕ
residue m (pos n) = n % m
residue m (negsuc n) = (m - suc n % m) % m
