-- What a call may ask of an argument, one constructor a kind, and what is read off each kind: docs/SCHEME.md, "When a call says no". A further
-- kind is one constructor and one line in each function below.
use Rattle.std.specs.Prelude.{Bool, true, ◌≡◌, List, [], ◌∷◌, ℕ, ◌-◌, ◌/◌, ◌≤◌, ◌<◌, eqb, leb, length, drop}
use Rattle.field.specs.Field.{P, Coefficients}
use Rattle.codec.specs.Layout.{words}

pub data Asked : Type 0 where
  -- n numbers, each of which must be canonical
  numbers : ℕ → List ℕ → Asked
  -- n bytes that hold coefficients from byte k on
  packed : ℕ → ℕ → List ℕ → Asked
  -- an input, or a buffer to fill, that should have n and has m
  room : ℕ → ℕ → Asked
  -- one that may have at most n and has m
  at_most : ℕ → ℕ → Asked
  -- a field value, which counts as a coefficient with index 0
  value : ℕ → Asked
  -- one of which nothing is asked
  anything : Asked

-- ---- what is read off
-- whether its length is allowed
unfoldable pub fits : Asked → Bool
fits (numbers n l) = eqb (length l) n
fits (packed n k l) = eqb (length l) n
fits (room n m) = eqb m n
fits (at_most n m) = leb m n
fits (value x) = true
fits anything = true

-- its coefficients that must be canonical
unfoldable pub coefficients : Asked → List ℕ
coefficients (numbers n l) = l
coefficients (packed n k l) = words (drop k l)
coefficients (room n m) = []
coefficients (at_most n m) = []
coefficients (value x) = x ∷ []
coefficients anything = []

-- ---- what a call may count on
abbrev pub AsAsked : Asked → Type 0
AsAsked (numbers n l) = Coefficients n l
AsAsked (packed n k l) = (length l ≡ n) × Coefficients ((n - k) / 8) (words (drop k l))
AsAsked (room n m) = m ≡ n
AsAsked (at_most n m) = m ≤ n
AsAsked (value x) = x < P
AsAsked anything = record {}

-- every argument is as asked: of the first `.0`, of the second `.1 .0`, of the third `.1 .1 .0`
abbrev pub Each : List Asked → Type 0
Each [] = record {}
Each (a ∷ args) = AsAsked a × Each args
