-- How a call is proved by the judgement: what it may count on once nothing is wrong (`as_asked`), its two ends, and that two outcomes which a
-- contract allows are the same (`call_one`), for any answer type.
use mathlib.Core.Bool.{true}
use mathlib.Core.Path.{◌≡◌, refl, sym, ap, ◌∙◌}
use mathlib.Core.List.{List, [], ◌∷◌}
use Prim.Native.Nat.{ℕ, zero, suc, ◌-◌, ◌/◌}
use lib.Dec.{eqb, lit<}
use lib.ListN.{length, get_or, drop, length-drop}
use borrow.Author.Tests.{eqb-true, leb-true, eq-eqb, le-leb}
use Rattle.std.specs.Prelude.{Result, Ok, Err, Option, None, ⊤}
use Rattle.std.specs.Option.{ok_or}
use Rattle.laws.specs.Choices.{pick}
use Rattle.codec.proofs.Layouts.{length-words}
use Rattle.refusals.specs.Arguments.{Asked, numbers, packed, room, at_most, value, anything, fits, coefficients, AsAsked, Each}
use Rattle.refusals.specs.Judgement.{Told, No, gives, refuses, fine, then, judged}
use Rattle.refusals.specs.Exactly.{the, Canonical, Clean}
use Rattle.refusals.specs.Answers.{paper, said, told, told_two, Judges, Lent, olds, left, Call}
use Rattle.refusals.proofs.Steps.{stays, next}
use Rattle.refusals.proofs.Exactly.{exactly_0}
use Rattle.refusals.specs.declared.Refusal.{Refusal}
use Rattle.refusals.specs.declared.Refusal.TheVariants.{Length, Coefficient, Differs, InverseOfZero, NoJob}

-- ---- what a call may count on
as_one : (a : Asked) → fits a ≡ true → Canonical (coefficients a) → AsAsked a
unfolding fits coefficients
as_one (numbers n l) f c = record { size = eqb-true (length l) n f; each = c }
as_one (packed n k l) f c =
    let h : length l ≡ n = eqb-true (length l) n f in
    (h, record { size = length-words (drop k l) ∙ ap (λ (m : ℕ). m / 8) (length-drop k l ∙ ap (λ (m : ℕ). m - k) h); each = c })
as_one (room n m) f c = eqb-true m n f
as_one (at_most n m) f c = leb-true m n f
as_one (value x) f c = c 0
as_one anything f c = record {}

pub as_each : (args : List Asked) → Clean args → Each args
as_each [] c = record {}
as_each (a ∷ args) c = (
  as_one a (c.all_fit 0) (c.all_canonical 0),
  as_each args (record { all_fit = λ k. c.all_fit (suc k); all_canonical = λ k. c.all_canonical (suc k) }),
)

-- and the other way: where every argument is as asked, nothing is wrong
fits_as : (a : Asked) → AsAsked a → fits a ≡ true
unfolding fits
fits_as (numbers n l) h = eq-eqb (length l) n h.size
fits_as (packed n k l) h = eq-eqb (length l) n h.0
fits_as (room n m) h = eq-eqb m n h
fits_as (at_most n m) h = le-leb m n h
fits_as (value x) h = refl
fits_as anything h = refl

none_canonical : Canonical []
none_canonical i = lit< tt

canonical_as : (a : Asked) → AsAsked a → Canonical (coefficients a)
unfolding coefficients
canonical_as (numbers n l) h = h.each
canonical_as (packed n k l) h = h.1.each
canonical_as (room n m) h = none_canonical
canonical_as (at_most n m) h = none_canonical
canonical_as (value x) h = one
  where
    one : Canonical (x ∷ [])
    one zero = h
    one (suc i) = lit< tt
canonical_as anything h = none_canonical

pub each_clean : (args : List Asked) → Each args → Clean args
each_clean args h = record { all_fit = fit args h; all_canonical = canonical args h }
  where
    fit : (args : List Asked) → Each args → (k : ℕ) → fits (the args k) ≡ true
    fit [] h k = fits_as anything (record {})
    fit (a ∷ args) h zero = fits_as a h.0
    fit (a ∷ args) h (suc k) = fit args h.1 k

    canonical : (args : List Asked) → Each args → (k : ℕ) → Canonical (coefficients (the args k))
    canonical [] h k = canonical_as anything (record {})
    canonical (a ∷ args) h zero = canonical_as a h.0
    canonical (a ∷ args) h (suc k) = canonical args h.1 k

-- where nothing is told against them, every argument is as asked
pub as_asked : (args : List Asked) → fine ≡ judged args → Each args
as_asked args e = as_each args ((exactly_0 args).0 (sym e))

-- so a function that answers as they are judged judges them
pub judges : (args : List Asked) (r : Result ⊤ Refusal) → said r ≡ judged args → Judges args r
judges args (Ok done) e = record { answered = e; as_asked = as_asked args e }
judges args (Err r) e = record { answered = e; as_asked = tt }

-- by which a chain of steps with `?` between them is judged
pub ruleset steps = (judges, stays, next)

-- ---- the two ends of a call
pub left_no : (r : No) (lent : List Lent) → left (refuses r) lent ≡ olds lent
left_no r [] = refl
left_no r (b ∷ lent) = ap (λ (l : List (List ℕ)). b.old ∷ l) (left_no r lent)

pub done : (args : List Asked) (given answer : Told) (lent : List Lent) (new : List (List ℕ))
    → fine ≡ judged args → answer ≡ given → new ≡ left given lent → Call args given answer lent new
done args given answer lent new e a b = record {
  answered = a ∙ ap (λ (t : Told). then t given) e;
  buffers = b ∙ ap (λ (t : Told). left (then t given) lent) e;
}

pub gives_done : (v : Result ⊤ Refusal) (args : List Asked) (x y : ℕ) → v ≡ Ok tt → said v ≡ judged args → x ≡ y
    → Call args (gives (y ∷ [])) (gives (x ∷ [])) [] []
gives_done v args x y e f g = done args _ _ _ _ (ap said (sym e) ∙ f) (ap (λ (z : ℕ). gives (z ∷ [])) g) refl

-- ---- what is told determines the answer, of any type that can be read back
pub record Answers (A : Type 0) : Type 0 where
  pub tell : A → Told
  pub back : Told → A
  pub back_tell : (v : A) → back (tell v) ≡ v

pub call_one : {A : Type 0} (R : Answers A) (v w : A) (args : List Asked) (given : Told) (lent : List Lent) (new new' : List (List ℕ))
    → Call args given (R.tell v) lent new → Call args given (R.tell w) lent new' → (v ≡ w) × (new ≡ new')
call_one R v w args given lent new new' c d = (
  sym (R.back_tell v) ∙ ap R.back (c.answered ∙ sym d.answered) ∙ R.back_tell w,
  c.buffers ∙ sym d.buffers,
)

refusal_of : No → Refusal
refusal_of r =
    pick (eqb r.number 1) (Length r.argument) (pick (eqb r.number 2) (Coefficient r.argument r.place)
    (pick (eqb r.number 3) Differs (pick (eqb r.number 4) InverseOfZero NoJob)))

refusal_back : (r : Refusal) → refusal_of (paper r) ≡ r
unfolding refusal_of
refusal_back (Length a) = refl
refusal_back (Coefficient a i) = refl
refusal_back Differs = refl
refusal_back InverseOfZero = refl
refusal_back NoJob = refl

-- ---- the three answer types
answer_of : Told → Result ⊤ Refusal
answer_of (gives xs) = Ok tt
answer_of (refuses r) = Err (refusal_of r)

answer_back : (v : Result ⊤ Refusal) → answer_of (said v) ≡ v
unfolding answer_of
answer_back (Ok done) = refl
answer_back (Err r) = ap Err (refusal_back r)

pub said-one : (v w : Result ⊤ Refusal) → said v ≡ said w → v ≡ w
said-one v w e = sym (answer_back v) ∙ ap answer_of e ∙ answer_back w

given_of : Told → Result ℕ Refusal
given_of (gives xs) = Ok (get_or xs 0 0)
given_of (refuses r) = Err (refusal_of r)

given_back : (v : Result ℕ Refusal) → given_of (told v) ≡ v
unfolding given_of
given_back (Ok x) = refl
given_back (Err r) = ap Err (refusal_back r)

given_two_of : Told → Result (ℕ × ℕ) Refusal
given_two_of (gives xs) = Ok (get_or xs 0 0, get_or xs 1 0)
given_two_of (refuses r) = Err (refusal_of r)

given_two_back : (v : Result (ℕ × ℕ) Refusal) → given_two_of (told_two v) ≡ v
unfolding given_two_of
given_two_back (Ok xs) = refl
given_two_back (Err r) = ap Err (refusal_back r)

-- ---- the refusal that `ok_or` gives
pub refusal_or : {T : Type 0} (o : Option T) (d e : Refusal) → o ≡ None → ◌≡◌ {A = Result T Refusal} (Err d) (ok_or o e) → d ≡ e
refusal_or {T = T} o d e n f = let g : ◌≡◌ {A = Result T Refusal} (Err d) (Err e) = f ∙ ap (λ (p : Option T). ok_or p e) n in cc

-- ---- so what a contract allows is one answer and one content of each buffer, whichever shape it has
pub fills_one : (args : List Asked) (v w : Result ⊤ Refusal) (given : Told) (lent : List Lent) (new new' : List (List ℕ))
    → Call args given (said v) lent new → Call args given (said w) lent new' → (v ≡ w) × (new ≡ new')
fills_one args v w given lent new new' = call_one (record { tell = said; back = answer_of; back_tell = answer_back }) v w args given lent new new'

pub gives_one : (args : List Asked) (v w : Result ℕ Refusal) (given : Told) (lent : List Lent) (new new' : List (List ℕ))
    → Call args given (told v) lent new → Call args given (told w) lent new' → (v ≡ w) × (new ≡ new')
gives_one args v w given lent new new' = call_one (record { tell = told; back = given_of; back_tell = given_back }) v w args given lent new new'

pub gives_two_one : (args : List Asked) (v w : Result (ℕ × ℕ) Refusal) (given : Told) (lent : List Lent) (new new' : List (List ℕ))
    → Call args given (told_two v) lent new → Call args given (told_two w) lent new' → (v ≡ w) × (new ≡ new')
gives_two_one args v w given lent new new' =
    call_one (record { tell = told_two; back = given_two_of; back_tell = given_two_back }) v w args given lent new new'
