-- A call is refused exactly when the table of docs/SCHEME.md says, by the number, argument and place that it says, for any list of arguments: the
-- statements are specs/Exactly. What is said of `tested` holds for any list of tests, so that a further test needs no proof of its own.
use mathlib.Core.Bool.{Bool, true, false}
use mathlib.Core.Path.{◌≡◌, refl, sym, ap, ◌∙◌, subst}
use mathlib.Core.List.{List, [], ◌∷◌}
use mathlib.Core.Logic.{◌⊎◌, inl, inr}
use Prim.Native.Nat.{ℕ, zero, suc, ◌+◌, ◌≤◌, ◌<◌, zero-le, suc-le-suc}
use native.Mathlib.Nat.{add-zero, le_of_suc-le-suc}
use native.Mathlib.Omega.{arith}
use lib.Dec.{ltb}
use lib.ListN.{length, get_or}
use borrow.Author.Tests.{lt-ltb, le-ltb, ltb-true, ltb-false}
use Rattle.laws.specs.Choices.{pick}
use Rattle.field.specs.Field.{P}
use Rattle.refusals.specs.Arguments.{Asked, anything, fits, coefficients}
use Rattle.refusals.specs.Judgement.{Told, No, sign, gives, refuses, fine, Fault, no_fault, fault, unless}
use Rattle.refusals.specs.Judgement.{lead, found, looked, lengths, canonicals, blame, passed, tested, judged}
use Rattle.refusals.specs.Exactly.{the, Canonical, Misfit, Bad, Clean, Exactly1, Exactly2, Exactly0, OneOfThree}
use Rattle.refusals.proofs.Leads.{lead-before, lead-at, lead-all, all-lead, lead_is}
use Rattle.refusals.proofs.Steps.{looked_some}

-- ---- one test of all arguments
-- what is found is told after nothing, and a refusal stays
blame_none : (k : ℕ) (f : Fault) (t : Told) → f ≡ no_fault → blame k f t ≡ t
unfolding blame
blame_none k f t e = rw e

blame_stays : (k : ℕ) (f : Fault) (r : No) → blame k f (refuses r) ≡ refuses r
unfolding blame
blame_stays k no_fault r = refl
blame_stays k (fault n i) r = refl

passed_stays : (f : Asked → Fault) (r : No) (k : ℕ) (args : List Asked) → passed f (refuses r) k args ≡ refuses r
unfolding passed
passed_stays f r k [] = refl
passed_stays f r k (a ∷ args) = rw (blame_stays k (f a) r) (passed_stays f r (suc k) args)

passed-all : (f : Asked → Fault) (t : Told) (k : ℕ) (args : List Asked) → ((j : ℕ) → f (the args j) ≡ no_fault) → passed f t k args ≡ t
unfolding passed
passed-all f t k [] h = refl
passed-all f t k (a ∷ args) h = rw (blame_none k (f a) t (h 0)) (passed-all f t (suc k) args (λ j. h (suc j)))

-- argument k is the lowest at which the test finds this
pub record Lowest (f : Asked → Fault) (args : List Asked) (k n i : ℕ) : Type 0 where
  pub here : f (the args k) ≡ fault n i
  pub lower : (j : ℕ) → j < k → f (the args j) ≡ no_fault

fault_none : {A : Type 0} (n i : ℕ) → fault n i ≡ no_fault → A
fault_none n i e = let z : ◌≡◌ {A = ℕ} 0 1 = cc in absurd (omega arith)

module _ (f : Asked → Fault) (free : f anything ≡ no_fault) where
  passed_first : (m : ℕ) (args : List Asked) (k n i : ℕ) → Lowest f args k n i → passed f fine m args ≡ refuses (sign n (m + k) i)
  unfolding passed blame
  passed_first m [] k n i l = fault_none n i (sym l.here ∙ free)
  passed_first m (a ∷ args) zero n i l =
      ap (λ (g : Fault). passed f (blame m g fine) (suc m) args) l.here ∙ passed_stays f (sign n m i) (suc m) args
      ∙ ap (λ (j : ℕ). refuses (sign n j i)) (sym (add-zero m))
  passed_first m (a ∷ args) (suc k) n i l =
      let e : suc m + k ≡ m + suc k = omega arith in
      ap (λ (t : Told). passed f t (suc m) args) (blame_none m (f a) fine (l.lower 0 (suc-le-suc zero-le)))
      ∙ passed_first (suc m) args k n i (record { here = l.here; lower = λ j h. l.lower (suc j) (suc-le-suc h) })
      ∙ ap (λ (j : ℕ). refuses (sign n j i)) e

  abbrev Found : List Asked → Type 0
  Found args = ((k : ℕ) × (n : ℕ) × (i : ℕ) × Lowest f args k n i) ⊎ ((k : ℕ) → f (the args k) ≡ no_fault)

  find : (args : List Asked) → Found args
  find [] = inr (λ k. free)
  find (a ∷ args) = go (f a) refl (find args)
    where
      below : (k : ℕ) → f a ≡ no_fault → ((i : ℕ) → i < k → f (the args i) ≡ no_fault) → (i : ℕ) → i < suc k → f (the (a ∷ args) i) ≡ no_fault
      below k e h zero l = e
      below k e h (suc i) l = h i (le_of_suc-le-suc l)

      all : f a ≡ no_fault → ((k : ℕ) → f (the args k) ≡ no_fault) → (k : ℕ) → f (the (a ∷ args) k) ≡ no_fault
      all e h zero = e
      all e h (suc k) = h k

      go : (g : Fault) → f a ≡ g → Found args → Found (a ∷ args)
      go (fault n i) e rest = inl (0, n, i, record { here = e; lower = λ j l. absurd (omega arith) })
      go no_fault e (inl w) = inl (suc w.0, w.1, w.2, record { here = w.3.here; lower = below w.0 e w.3.lower })
      go no_fault e (inr h) = inr (all e h)

-- ---- any list of tests
abbrev test : List (Asked → Fault) → ℕ → Asked → Fault
test tests t = get_or tests t (λ a. no_fault)

-- test t is the first that finds anything, and argument k the lowest at which it does
pub record First (tests : List (Asked → Fault)) (args : List Asked) (t k n i : ℕ) : Type 0 where
  pub earlier : (s : ℕ) → s < t → (j : ℕ) → test tests s (the args j) ≡ no_fault
  pub lowest : Lowest (test tests t) args k n i

abbrev All : List (Asked → Fault) → List Asked → Type 0
All tests args = (s j : ℕ) → test tests s (the args j) ≡ no_fault

tested_stays : (tests : List (Asked → Fault)) (r : No) (args : List Asked) → tested tests (refuses r) args ≡ refuses r
unfolding tested
tested_stays [] r args = refl
tested_stays (f ∷ tests) r args = rw (passed_stays f r 1 args) (tested_stays tests r args)

tested-all : (tests : List (Asked → Fault)) (t : Told) (args : List Asked) → All tests args → tested tests t args ≡ t
unfolding tested
tested-all [] t args h = refl
tested-all (f ∷ tests) t args h = rw (passed-all f t 1 args (h 0)) (tested-all tests t args (λ s. h (suc s)))

-- no test finds anything where nothing is asked
abbrev Free : List (Asked → Fault) → Type 0
Free tests = (t : ℕ) → test tests t anything ≡ no_fault

tested-first : (tests : List (Asked → Fault)) (args : List Asked) (t k n i : ℕ) → Free tests → First tests args t k n i
    → tested tests fine args ≡ refuses (sign n (1 + k) i)
unfolding tested
tested-first [] args t k n i free h = fault_none n i (sym h.lowest.here)
tested-first (f ∷ tests) args zero k n i free h =
    ap (λ (u : Told). tested tests u args) (passed_first f (free 0) 1 args k n i h.lowest) ∙ tested_stays tests (sign n (1 + k) i) args
tested-first (f ∷ tests) args (suc t) k n i free h =
    ap (λ (u : Told). tested tests u args) (passed-all f fine 1 args (h.earlier 0 (suc-le-suc zero-le)))
    ∙ tested-first tests args t k n i (λ s. free (suc s)) (record { earlier = λ s l. h.earlier (suc s) (suc-le-suc l); lowest = h.lowest })

abbrev Cases : List (Asked → Fault) → List Asked → Type 0
Cases tests args = ((t : ℕ) × (k : ℕ) × (n : ℕ) × (i : ℕ) × First tests args t k n i) ⊎ All tests args

cases : (tests : List (Asked → Fault)) (args : List Asked) → Free tests → Cases tests args
cases [] args free = inr (λ s j. refl)
cases (f ∷ tests) args free = go (find f (free 0) args) (cases tests args (λ t. free (suc t)))
  where
    before : (t : ℕ) → ((j : ℕ) → f (the args j) ≡ no_fault) → ((s : ℕ) → s < t → (j : ℕ) → test tests s (the args j) ≡ no_fault)
        → (s : ℕ) → s < suc t → (j : ℕ) → test (f ∷ tests) s (the args j) ≡ no_fault
    before t e h zero l j = e j
    before t e h (suc s) l j = h s (le_of_suc-le-suc l) j

    both : ((j : ℕ) → f (the args j) ≡ no_fault) → All tests args → All (f ∷ tests) args
    both e h zero j = e j
    both e h (suc s) j = h s j

    go : Found f (free 0) args → Cases tests args → Cases (f ∷ tests) args
    go (inl w) rest = inl (0, w.0, w.1, w.2, record { earlier = λ s l. absurd (omega arith); lowest = w.3 })
    go (inr e) (inl w) = inl (suc w.0, w.1, w.2, w.3, record { earlier = before w.0 e w.4.earlier; lowest = w.4.lowest })
    go (inr e) (inr h) = inr (both e h)

-- ---- the two tests of `judged`
abbrev two : List (Asked → Fault)
two = lengths ∷ canonicals ∷ []

free_two : Free two
unfolding fits coefficients looked
free_two zero = refl
free_two (suc zero) = refl
free_two (suc (suc t)) = refl

-- what a test says that finds nothing, or something
unless_none : (b : Bool) (n : ℕ) → unless b n ≡ no_fault → b ≡ true
unless_none true n e = refl
unless_none false n e = fault_none n 0 e

unless_some : (b : Bool) (m n i : ℕ) → unless b m ≡ fault n i → (b ≡ false) × (m ≡ n)
unless_some true m n i e = fault_none n i (sym e)
unless_some false m n i e = (refl, cc)

passes_if : (b : Bool) (n : ℕ) → b ≡ true → unless b n ≡ no_fault
passes_if b n e = rw e

fails_if : (b : Bool) (n : ℕ) → b ≡ false → unless b n ≡ fault n 0
fails_if b n e = rw e

-- the same for coefficients
found_none : (i m : ℕ) (b : Bool) → ltb i m ≡ b → pick b (fault 2 i) no_fault ≡ no_fault → m ≤ i
found_none i m true e f = fault_none 2 i f
found_none i m false e f = ltb-false i m e

found_some : (i m n j : ℕ) (b : Bool) → ltb i m ≡ b → pick b (fault 2 i) no_fault ≡ fault n j → (2 ≡ n) × (i ≡ j) × (i < m)
found_some i m n j true e f = (cc, cc, ltb-true i m e)
found_some i m n j false e f = fault_none n j (sym f)

-- coefficients that are looked at, their length being allowed
looked-found : (b : Bool) (l : List ℕ) → b ≡ true → looked b l ≡ found (lead l) (length l)
looked-found b l e = rw e (looked_some l)

none_canonical : (b : Bool) (l : List ℕ) → b ≡ true → looked b l ≡ no_fault → Canonical l
unfolding found
none_canonical b l e f = lead-all l (found_none (lead l) (length l) (ltb (lead l) (length l)) refl (sym (looked-found b l e) ∙ f))

canonical_none : (b : Bool) (l : List ℕ) → b ≡ true → Canonical l → looked b l ≡ no_fault
unfolding found
canonical_none b l e h = rw (looked-found b l e, le-ltb (lead l) (length l) (all-lead l h))

looked-bad : (b : Bool) (n i : ℕ) (l : List ℕ) → b ≡ true → looked b l ≡ fault n i → (2 ≡ n) × (lead l ≡ i) × (lead l < length l)
unfolding found
looked-bad b n i l e f = found_some (lead l) (length l) n i (ltb (lead l) (length l)) refl (sym (looked-found b l e) ∙ f)

bad-looked : (b : Bool) (i : ℕ) (l : List ℕ) → b ≡ true → lead l ≡ i → i < length l → looked b l ≡ fault 2 i
unfolding found
bad-looked b i l e q h = rw (looked-found b l e, q, lt-ltb i (length l) h)

-- ---- the table, one way: what holds decides what is told
told_0 : (args : List Asked) → Clean args → judged args ≡ fine
unfolding judged
told_0 args c = tested-all two fine args all
  where
    all : All two args
    all zero j = passes_if (fits (the args j)) 1 (c.all_fit j)
    all (suc zero) j = canonical_none (fits (the args j)) (coefficients (the args j)) (c.all_fit j) (c.all_canonical j)
    all (suc (suc s)) j = refl

told_1 : (args : List Asked) (k : ℕ) → Misfit args k → judged args ≡ refuses (sign 1 (1 + k) 0)
unfolding judged
told_1 args k m = tested-first two args 0 k 1 0 free_two (record {
  earlier = λ s l. absurd (omega arith);
  lowest = record { here = fails_if (fits (the args k)) 1 m.misfits; lower = λ j l. passes_if (fits (the args j)) 1 (m.lowest j l) };
})

told_2 : (args : List Asked) (k i : ℕ) → Bad args k i → judged args ≡ refuses (sign 2 (1 + k) i)
unfolding judged
told_2 args k i b =
    let at = lead_is (coefficients (the args k)) i b.bad b.first in
    tested-first two args 1 k 2 i free_two (record {
      earlier = before;
      lowest = record {
        here = bad-looked (fits (the args k)) i (coefficients (the args k)) (b.all_fit k) at.0 at.1;
        lower = λ j l. canonical_none (fits (the args j)) (coefficients (the args j)) (b.all_fit j) (b.lowest j l);
      };
    })
  where
    before : (s : ℕ) → s < 1 → (j : ℕ) → test two s (the args j) ≡ no_fault
    before zero l j = passes_if (fits (the args j)) 1 (b.all_fit j)
    before (suc s) l j = absurd (omega arith)

-- ---- and the other way
fit_all : (args : List Asked) → ((j : ℕ) → lengths (the args j) ≡ no_fault) → (j : ℕ) → fits (the args j) ≡ true
fit_all args h j = unless_none (fits (the args j)) 1 (h j)

canonical-at : (args : List Asked) (j : ℕ) → fits (the args j) ≡ true → canonicals (the args j) ≡ no_fault → Canonical (coefficients (the args j))
canonical-at args j = none_canonical (fits (the args j)) (coefficients (the args j))

clean : (args : List Asked) → All two args → Clean args
clean args h = let fit = fit_all args (h 0) in record { all_fit = fit; all_canonical = λ j. canonical-at args j (fit j) (h 1 j) }

misfit : (args : List Asked) (k i : ℕ) → Lowest lengths args k 1 i → Misfit args k
misfit args k i l = record {
  misfits = (unless_some (fits (the args k)) 1 1 i l.here).0;
  lowest = λ j h. unless_none (fits (the args j)) 1 (l.lower j h);
}

bad : (args : List Asked) (k i : ℕ) → ((j : ℕ) → fits (the args j) ≡ true) → Lowest canonicals args k 2 i → Bad args k i
bad args k i fit l =
    let s = coefficients (the args k) in
    let b = looked-bad (fits (the args k)) 2 i s (fit k) l.here in
    let at : lead s ≡ i = b.1 in
    record {
      all_fit = fit;
      bad = subst (λ (x : ℕ). P ≤ get_or s x 0) at (lead-at s b.2);
      first = λ x h. lead-before s x (omega (arith, at));
      lowest = λ x h. canonical-at args x (fit x) (l.lower x h);
    }

-- so one of three things holds of any arguments,
abbrev Three : List Asked → Type 0
Three args = ((k : ℕ) × Misfit args k) ⊎ (((k : ℕ) × (i : ℕ) × Bad args k i) ⊎ Clean args)

three : (args : List Asked) → Three args
three args = go (cases two args free_two)
  where
    at : (t k n i : ℕ) → First two args t k n i → Three args
    at zero k n i f =
        let e = (unless_some (fits (the args k)) 1 n i f.lowest.here).1 in
        inl (k, misfit args k i (subst (λ (m : ℕ). Lowest lengths args k m i) (sym e) f.lowest))
    at (suc zero) k n i f =
        let fit = fit_all args (f.earlier 0 (omega arith)) in
        let e = (looked-bad (fits (the args k)) n i (coefficients (the args k)) (fit k) f.lowest.here).0 in
        inr (inl (k, i, bad args k i fit (subst (λ (m : ℕ). Lowest canonicals args k m i) (sym e) f.lowest)))
    at (suc (suc t)) k n i f = fault_none n i (sym f.lowest.here)

    go : Cases two args → Three args
    go (inl w) = at w.0 w.1 w.2 w.3 w.4
    go (inr h) = inr (inr (clean args h))

-- and what is told decides which
abbrev pub sign_of : Told → No
sign_of (gives xs) = sign 0 0 0
sign_of (refuses r) = r

same_sign : (t u : Told) → t ≡ u
    → ((sign_of t).number ≡ (sign_of u).number) × ((sign_of t).argument ≡ (sign_of u).argument) × ((sign_of t).place ≡ (sign_of u).place)
same_sign t u e = rw e (refl, refl, refl)

pub exactly_0 : Exactly0
exactly_0 args = (λ e. go e (three args), told_0 args)
  where
    go : judged args ≡ fine → Three args → Clean args
    go e (inl w) = let s = same_sign _ _ (sym e ∙ told_1 args w.0 w.1) in absurd (omega (arith, s.0))
    go e (inr (inl w)) = let s = same_sign _ _ (sym e ∙ told_2 args w.0 w.1 w.2) in absurd (omega (arith, s.0))
    go e (inr (inr c)) = c

pub exactly_1 : Exactly1
exactly_1 args k = (λ e. go e (three args), told_1 args k)
  where
    go : judged args ≡ refuses (sign 1 (1 + k) 0) → Three args → Misfit args k
    go e (inl w) =
        let s = same_sign _ _ (sym e ∙ told_1 args w.0 w.1) in
        subst (λ (j : ℕ). Misfit args j) (omega (arith, s.1)) w.1
    go e (inr (inl w)) = let s = same_sign _ _ (sym e ∙ told_2 args w.0 w.1 w.2) in absurd (omega (arith, s.0))
    go e (inr (inr c)) = let s = same_sign _ _ (sym e ∙ told_0 args c) in absurd (omega (arith, s.0))

pub exactly_2 : Exactly2
exactly_2 args k i = (λ e. go e (three args), told_2 args k i)
  where
    go : judged args ≡ refuses (sign 2 (1 + k) i) → Three args → Bad args k i
    go e (inl w) = let s = same_sign _ _ (sym e ∙ told_1 args w.0 w.1) in absurd (omega (arith, s.0))
    go e (inr (inl w)) =
        let s = same_sign _ _ (sym e ∙ told_2 args w.0 w.1 w.2) in
        let a : w.0 ≡ k = omega (arith, s.1) in
        subst (λ (j : ℕ). Bad args j i) a (subst (λ (j : ℕ). Bad args w.0 j) (sym s.2) w.2)
    go e (inr (inr c)) = let s = same_sign _ _ (sym e ∙ told_0 args c) in absurd (omega (arith, s.0))

-- and nothing else is ever told
pub one_of_three : (args : List Asked) → OneOfThree args
one_of_three args = go (three args)
  where
    go : Three args → OneOfThree args
    go (inl w) = inl (w.0, told_1 args w.0 w.1)
    go (inr (inl w)) = inr (inl (w.0, w.1, told_2 args w.0 w.1 w.2))
    go (inr (inr c)) = inr (inr (told_0 args c))
