-- One step of judging, after a refusal and after none.
use mathlib.Core.Bool.{Bool, true, false}
use mathlib.Core.Path.{◌≡◌, refl, sym, sym, ◌∙◌}
use mathlib.Core.List.{List, [], ◌∷◌}
use Prim.Native.Nat.{ℕ, ◌-◌, ◌≤◌, ◌<◌}
use native.Mathlib.Omega.{arith}
use lib.Dec.{eqb}
use lib.ListN.{length, take, drop, length-drop, drop_of_length-le}
use lib.Seq.{take_all}
use borrow.Author.Tests.{eq-eqb}
use Rattle.std.specs.Prelude.{Option, Some, None, Result, Ok, Err, ⊤, nat_le, nat_lt, position, cond}
use Rattle.laws.specs.Choices.{pick}
use Rattle.laws.specs.Lists.{tab, tab_from}
use Rattle.field.specs.Field.{P}
use Rattle.codec.specs.Layout.{words}
use Rattle.refusals.specs.Judgement.{No, Told, refuses, sign, fine, then, then, Fault, no_fault, fault, as_fault, lead, found, placed, looked, blame}
use Rattle.refusals.specs.Answers.{said, paper}
use Rattle.refusals.specs.declared.Refusal.{Refusal}
use Rattle.refusals.proofs.Leads.{position_lead}

-- a refusal stays,
pub stays : (k : ℕ) (f : Fault) (r : No) (t : Told) → refuses r ≡ t → refuses r ≡ blame k f t
unfolding blame
stays k no_fault r t e = e
stays k (fault n i) r t e = rw (← e) refl

-- and after none it is the next step that tells
pub next : (k : ℕ) (f : Fault) (t u : Told) → fine ≡ t → u ≡ blame k f fine → u ≡ blame k f t
next k f t u e h = rw (← e) h

-- so what is told of an answer and then by a step is what `?` between them tells
pub so_far : (v : Result ⊤ Refusal) (k : ℕ) (f : Fault) → blame k f (said v) ≡ then (said v) (blame k f fine)
so_far (Ok done) k f = refl
so_far (Err r) k f = sym (stays k f (paper r) _ refl)

-- ---- a test
pub passes : (b : Bool) (k : ℕ) (f : Fault) → b ≡ true → fine ≡ blame k (pick b no_fault f) fine
unfolding blame
passes b k f e = rw e

pub fails : (b : Bool) (r : No) → b ≡ false → refuses r ≡ blame r.argument (pick b no_fault (as_fault r)) fine
unfolding blame
fails b r e = rw e

-- ---- the first bad coefficient
pub finds : (k i : ℕ) → refuses (sign 2 k i) ≡ blame k (fault 2 i) fine
unfolding blame
finds k i = refl

pub finds_none : (k : ℕ) → fine ≡ blame k no_fault fine
unfolding blame
finds_none k = refl

-- it stands where the library's word says
placed_lead : (s : List ℕ) → placed (position (λ x. nat_le P x) s) ≡ found (lead s) (length s)
unfolding found
placed_lead s = rw (position_lead s) (go (nat_lt (lead s) (length s)))
  where
    go : (b : Bool) → placed (cond b (Some (lead s)) None) ≡ pick b (fault 2 (lead s)) no_fault
    go true = refl
    go false = refl

-- ---- all coefficients of an argument
pub looked_none : (l : List ℕ) → looked false l ≡ no_fault
unfolding looked
looked_none [] = refl
looked_none (x ∷ xs) = refl

pub looked_some : (l : List ℕ) → looked true l ≡ found (lead l) (length l)
unfolding looked found lead
looked_some [] = refl
looked_some (x ∷ xs) = refl

-- where their length is allowed: numbers s,
pub looked-numbers : (o : Option ℕ) (n : ℕ) (s : List ℕ) → o ≡ position (λ x. nat_le P x) s → length s ≡ n
    → placed o ≡ looked (eqb (length s) n) s
looked-numbers o n s e size = rw (e, eq-eqb (length s) n size, looked_some s) (placed_lead s)

-- and numbers in the bytes u, a list's from k to its end
pub looked-bytes : (o : Option ℕ) (n k : ℕ) (s u : List ℕ) → o ≡ position (λ x. nat_le P x) (words u) → length s ≡ n
    → u ≡ take (n - k) (drop k s) → placed o ≡ looked (eqb (length s) n) (words (drop k s))
looked-bytes o n k s u e size g =
    let rest : u ≡ drop k s = g ∙ take_all (n - k) (drop k s) (simp length-drop (omega arith)) in
    rw (e, ← rest, eq-eqb (length s) n size, looked_some (words u)) (placed_lead (words u))

-- what is found, found otherwise
pub same : (k : ℕ) (f g : Fault) (t : Told) → f ≡ g → blame k f t ≡ blame k g t
same k f g t e = rw e

-- an argument of another length is not looked into
pub unseen : (b : Bool) (k : ℕ) (l : List ℕ) (t : Told) → b ≡ false → t ≡ blame k (looked b l) t
unfolding blame
unseen b k l t e = rw (e, looked_none l)

-- nor is one that ends before its coefficients start
pub unseen_past : (b : Bool) (k m n : ℕ) (l : List ℕ) (t : Told) → length l ≡ n → n < m → t ≡ blame k (looked b (words (drop m l))) t
unfolding blame words tab tab_from looked
unseen_past b k m n l t size h =
    let past : length l ≤ m = omega arith in
    rw (drop_of_length-le l past)
