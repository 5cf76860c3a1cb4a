-- Congruence modulo m, as a relation.
use Rattle.std.specs.Prelude.{◌≡◌, ℕ, ◌%◌}

-- a and b leave the same remainder
pub record Cong (m a b : ℕ) : Type 0 where
  pub same : a % m ≡ b % m
