-- The first coefficient that is not canonical: what stands before it, what stands there, and the library's word for it.
use mathlib.Core.Bool.{Bool, true, false, not}
use mathlib.Core.Path.{◌≡◌, refl, ap, ap₂}
use mathlib.Core.List.{List, [], ◌∷◌, map}
use mathlib.Core.Logic.{⊎_elim}
use Prim.Native.Nat.{ℕ, zero, suc, ◌+◌, ◌≤◌, ◌<◌}
use native.Mathlib.Nat.{le_of_suc-le-suc, not-suc-le-zero}
use native.Mathlib.Omega.{arith}
use lib.Dec.{ltb, lit<}
use lib.ListN.{length, get_or, get_or-eq_default}
use borrow.Author.Tests.{ltb-true, ltb-false}
use Rattle.std.specs.Prelude.{nat_le, nat_lt, position, cond, Some, None}
use Rattle.std.proofs.Common.{tests}
use Rattle.std.proofs.lemmas.List.{length-map}
use Rattle.std.specs.List.{position_or_len}
use Rattle.laws.proofs.Orders.{le_or_lt}
use Rattle.field.specs.Field.{P}
use Rattle.laws.specs.Choices.{pick}
use Rattle.refusals.specs.Judgement.{lead}
use Rattle.refusals.specs.Exactly.{Canonical}

before-step : (b : Bool) (n i : ℕ) → i < pick b (suc n) 0 → (b ≡ true) × (i < suc n)
before-step true n i h = (refl, h)
before-step false n i h = absurd (not-suc-le-zero h)

-- what is before it is canonical
pub lead-before : (s : List ℕ) (i : ℕ) → i < lead s → get_or s i 0 < P
unfolding lead
lead-before [] i h = lit< tt
lead-before (x ∷ xs) zero h = ltb-true x P (before-step (ltb x P) (lead xs) zero h).0
lead-before (x ∷ xs) (suc i) h = lead-before xs i (le_of_suc-le-suc (before-step (ltb x P) (lead xs) (suc i) h).1)

at-step : (x : ℕ) (xs : List ℕ) (b : Bool) → ltb x P ≡ b → (lead xs < length xs → P ≤ get_or xs (lead xs) 0)
    → pick b (suc (lead xs)) 0 < suc (length xs) → P ≤ get_or (x ∷ xs) (pick b (suc (lead xs)) 0) 0
at-step x xs true e ih h = ih (le_of_suc-le-suc h)
at-step x xs false e ih h = ltb-false x P e

-- and it is not
pub lead-at : (s : List ℕ) → lead s < length s → P ≤ get_or s (lead s) 0
unfolding lead
lead-at [] h = absurd (not-suc-le-zero h)
lead-at (x ∷ xs) h = at-step x xs (ltb x P) refl (lead-at xs) h

-- where there is none, all are canonical
pub lead-all : (s : List ℕ) → length s ≤ lead s → Canonical s
lead-all s h i =
    ⊎_elim (λ l. rw (get_or-eq_default s 0 {n = i} l) (lit< tt)) (λ l. lead-before s i (omega arith)) (le_or_lt (length s) i)

-- and the other way round
pub all-lead : (s : List ℕ) → Canonical s → length s ≤ lead s
all-lead s h = ⊎_elim (λ l. l) (λ l. absurd (omega (arith, lead-at s l, h (lead s)))) (le_or_lt (length s) (lead s))

-- where i is bad and all before it are canonical, it stands at i
pub lead_is : (s : List ℕ) (i : ℕ) → P ≤ get_or s i 0 → ((j : ℕ) → j < i → get_or s j 0 < P) → (lead s ≡ i) × (i < length s)
lead_is s i bad before = (exact, inside)
  where
    inside : i < length s
    inside = ⊎_elim (λ l. absurd (past l)) (λ l. l) (le_or_lt (length s) i)
      where
        past : length s ≤ i → ⊥
        past l =
            let z : get_or s i 0 ≡ 0 = get_or-eq_default s 0 {n = i} l in
            omega arith

    not_later : i < lead s → ⊥
    not_later l = omega (arith, lead-before s i l)

    not_sooner : lead s < i → ⊥
    not_sooner l = omega (arith, before (lead s) l, lead-at s (omega (arith, inside)))

    exact : lead s ≡ i
    exact =
        ⊎_elim (λ a. ⊎_elim (λ b. omega arith) (λ b. absurd (not_sooner b)) (le_or_lt i (lead s)))
        (λ a. absurd (not_later a)) (le_or_lt (lead s) i)

-- ---- the library's word for where it stands
position_or_len_lead : (s : List ℕ) → position_or_len (λ x. nat_le P x) s ≡ lead s
unfolding lead
position_or_len_lead [] = refl
position_or_len_lead (x ∷ xs) = grind (arith, tests, position_or_len_lead xs)

pub position_lead : (s : List ℕ) → position (λ x. nat_le P x) s ≡ cond (nat_lt (lead s) (length s)) (Some (lead s)) None
position_lead s = rw (position_or_len_lead s) refl

-- the first f x that passes p stands where the first x does whose f x passes
position_or_len-map : {X Y : Type 0} (f : X → Y) (p : Y → Bool) (xs : List X) → position_or_len p (map f xs) ≡ position_or_len (λ x. p (f x)) xs
position_or_len-map f p [] = refl
position_or_len-map f p (x ∷ xs) = ap (λ n. cond (not (p (f x))) (1 + n) 0) (position_or_len-map f p xs)

pub position-map : {X Y : Type 0} (f : X → Y) (p : Y → Bool) (xs : List X) → position p (map f xs) ≡ position (λ x. p (f x)) xs
position-map f p xs = ap₂ (λ i n. cond (nat_lt i n) (Some i) None) (position_or_len-map f p xs) (length-map xs f)
