-- docs/SCHEME.md, "When a call says no", numbers 1 and 2, which every call is judged by: when exactly each is told, and when neither is.
-- proofs/Exactly proves them; the whole table, about what the calls tell, is specs/Table of crate demands.
use Rattle.std.specs.Prelude.{true, false, ◌≡◌, List, ◌↔◌, ◌⊎◌, ℕ, ◌+◌, ◌≤◌, ◌<◌, get_or}
use Rattle.field.specs.Field.{P}
use Rattle.refusals.specs.Arguments.{Asked, anything, fits, coefficients}
use Rattle.refusals.specs.Judgement.{refuses, sign, fine, judged}

-- argument k from 0, and one of which nothing is asked behind the last
abbrev pub the : List Asked → ℕ → Asked
the args k = get_or args k anything

abbrev pub Canonical : List ℕ → Type 0
Canonical s = (i : ℕ) → get_or s i 0 < P

-- argument k is the lowest whose length is not allowed
pub record Misfit (args : List Asked) (k : ℕ) : Type 0 where
  pub misfits : fits (the args k) ≡ false
  pub lowest : (i : ℕ) → i < k → fits (the args i) ≡ true

-- all lengths are allowed, argument k is the lowest with a coefficient of p or more, and its first such stands at i
pub record Bad (args : List Asked) (k i : ℕ) : Type 0 where
  pub all_fit : (j : ℕ) → fits (the args j) ≡ true
  pub bad : P ≤ get_or (coefficients (the args k)) i 0
  pub first : (j : ℕ) → j < i → get_or (coefficients (the args k)) j 0 < P
  pub lowest : (j : ℕ) → j < k → Canonical (coefficients (the args j))

-- nothing is wrong
pub record Clean (args : List Asked) : Type 0 where
  pub all_fit : (k : ℕ) → fits (the args k) ≡ true
  pub all_canonical : (k : ℕ) → Canonical (coefficients (the args k))

abbrev pub Exactly1 : Type 0
Exactly1 = (args : List Asked) (k : ℕ) → (judged args ≡ refuses (sign 1 (1 + k) 0)) ↔ Misfit args k

abbrev pub Exactly2 : Type 0
Exactly2 = (args : List Asked) (k i : ℕ) → (judged args ≡ refuses (sign 2 (1 + k) i)) ↔ Bad args k i

abbrev pub Exactly0 : Type 0
Exactly0 = (args : List Asked) → (judged args ≡ fine) ↔ Clean args

-- nothing else is ever told by the judgement: no other number, and no other argument or place
abbrev pub OneOfThree : List Asked → Type 0
OneOfThree args =
    ((k : ℕ) × (judged args ≡ refuses (sign 1 (1 + k) 0)))
    ⊎ (((k : ℕ) × (i : ℕ) × (judged args ≡ refuses (sign 2 (1 + k) i))) ⊎ (judged args ≡ fine))
