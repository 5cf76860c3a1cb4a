-- How any call is judged, from its input lists and the lengths of its outputs: docs/SCHEME.md, "When a call says no". A call is described by the
-- list of its arguments, inputs before outputs.
use Rattle.std.specs.Prelude.{Bool, List, [], ◌∷◌, ℕ, suc, ltb, length, Option, Some, None}
use Rattle.laws.specs.Choices.{pick}
use Rattle.field.specs.Field.{P}
use Rattle.refusals.specs.Arguments.{Asked, fits, coefficients}

-- a refusal carries a number, the argument (from 1) and a place
pub record No : Type 0 where
  pub number : ℕ
  pub argument : ℕ
  pub place : ℕ

abbrev pub sign : ℕ → ℕ → ℕ → No
sign n a i = record { number = n; argument = a; place = i }

-- what a call tells: the numbers that it gives, or a refusal
pub data Told : Type 0 where
  gives : List ℕ → Told
  refuses : No → Told

-- nothing against it so far
abbrev pub fine : Told
fine = gives []

-- what is told first stays, if it is a refusal
abbrev pub then : Told → Told → Told
then (gives xs) t = t
then (refuses r) t = refuses r

-- ---- what is found at one argument by one test: nothing, or a number and a place
-- (nobody needs to believe how it is put together from here on: `exactly_1`, `exactly_2` and `exactly_0` of proofs/Exactly say what `judged` tells)
pub data Fault : Type 0 where
  no_fault : Fault
  fault : ℕ → ℕ → Fault

abbrev pub as_fault : No → Fault
as_fault r = fault r.number r.place

-- number n unless b
abbrev pub unless : Bool → ℕ → Fault
unless b n = pick b no_fault (fault n 0)

-- how many coefficients stand before the first that is p or more, or the end
unfoldable pub lead : List ℕ → ℕ
lead [] = 0
lead (x ∷ xs) = pick (ltb x P) (suc (lead xs)) 0

-- number 2: the first bad one of m coefficients stands at i, or i is m
unfoldable pub found : ℕ → ℕ → Fault
found i m = pick (ltb i m) (fault 2 i) no_fault

-- the same of where it stands, if there is one
abbrev pub placed : Option ℕ → Fault
placed None = no_fault
placed (Some i) = fault 2 i

-- the coefficients of an argument whose length is allowed
unfoldable pub looked : Bool → List ℕ → Fault
looked b [] = no_fault
looked b (x ∷ xs) = pick b (found (lead (x ∷ xs)) (length (x ∷ xs))) no_fault

-- ---- the tests, in the order in which they are made: lengths, coefficients
abbrev pub lengths : Asked → Fault
lengths a = unless (fits a) 1

abbrev pub canonicals : Asked → Fault
canonicals a = looked (fits a) (coefficients a)

-- ---- the judgement
-- what was told so far, and then what is found at argument k
unfoldable pub blame : ℕ → Fault → Told → Told
blame k no_fault t = t
blame k (fault n i) t = then t (refuses (sign n k i))

-- one test of each argument in turn, counted from k
unfoldable pub passed : (Asked → Fault) → Told → ℕ → List Asked → Told
passed f t k [] = t
passed f t k (a ∷ args) = passed f (blame k (f a) t) (suc k) args

-- a test of all arguments before the next test
unfoldable pub tested : List (Asked → Fault) → Told → List Asked → Told
tested [] t args = t
tested (f ∷ tests) t args = tested tests (passed f t 1 args) args

-- (to unfold it is to unfold all that it is made of)
unfoldable pub judged : List Asked → Told
unfolding tested passed blame looked fits coefficients
judged args = tested (lengths ∷ canonicals ∷ []) fine args
