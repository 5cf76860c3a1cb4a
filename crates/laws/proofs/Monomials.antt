-- Monomials of the two solvers, each the list of its variables: when two are the same, and which comes first.
use mathlib.Core.Path.{◌≡◌, refl}
use mathlib.Core.Bool.{Bool, true, false}
use mathlib.Core.List.{List, [], ◌∷◌}
use Prim.Native.Nat.{ℕ}
use lib.Dec.{T, ltb, eqb, eqb→eq}
use Rattle.laws.specs.Tests.{both}
use Rattle.laws.proofs.Tests.{both_left, both_right}

abbrev pub alike : List ℕ → List ℕ → Bool
alike [] [] = true
alike [] (j ∷ n) = false
alike (i ∷ m) [] = false
alike (i ∷ m) (j ∷ n) = both (eqb i j) (alike m n)

pub alike_is : (m n : List ℕ) → T (alike m n) → m ≡ n
alike_is [] [] h = refl
alike_is [] (j ∷ n) h = absurd h
alike_is (i ∷ m) [] h = absurd h
alike_is (i ∷ m) (j ∷ n) h =
    λ k. eqb→eq i j (both_left (eqb i j) (alike m n) h) k ∷ alike_is m n (both_right (eqb i j) (alike m n) h) k

abbrev pub less_or : Bool → Bool → Bool → Bool
less_or true e r = true
less_or false true r = r
less_or false false r = false

-- an order of monomials; nothing is proved of it
abbrev pub first : List ℕ → List ℕ → Bool
first [] n = true
first (i ∷ m) [] = false
first (i ∷ m) (j ∷ n) = less_or (ltb i j) (eqb i j) (first m n)
