-- Numbers compared.
use mathlib.Core.Path.{◌≡◌, refl}
use mathlib.Core.Bool.{Bool, true, false}
use mathlib.Core.Logic.{◌⊎◌, inl, inr}
use Prim.Native.Nat.{ℕ, ◌≤◌, ◌<◌}
use lib.Dec.{ltb}
use borrow.Author.Tests.{ltb-true, ltb-false}

pub le_or_lt : (a b : ℕ) → (a ≤ b) ⊎ (b < a)
le_or_lt a b = go (ltb b a) refl
  where
    go : (t : Bool) → ltb b a ≡ t → (a ≤ b) ⊎ (b < a)
    go true e = inr (ltb-true b a e)
    go false e = inl (ltb-false b a e)
