-- Tests of numbers, joined.
use Rattle.std.specs.Prelude.{Bool, true, false, ℕ, zero, suc}

abbrev pub both : Bool → Bool → Bool
both true b = b
both false b = false

-- the test f passes at 0, 1, .. , n - 1
abbrev pub all : (ℕ → Bool) → ℕ → Bool
all f zero = true
all f (suc n) = both (f n) (all f n)
