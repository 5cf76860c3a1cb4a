-- The table of refusals holds of whatever a contract allows: `the_table` for any call, from the causes of its numbers 3 and 4.
use mathlib.Core.Path.{◌≡◌, refl, sym, ap, ◌∙◌, subst}
use mathlib.Core.List.{List}
use mathlib.Core.Logic.{◌↔◌, ◌⊎◌, inl, inr}
use Prim.Native.Nat.{ℕ, ◌+◌, ◌≤◌}
use native.Mathlib.Omega.{arith}
use Rattle.refusals.specs.Arguments.{Asked}
use Rattle.refusals.specs.Judgement.{Told, No, sign, gives, refuses, fine, then, judged}
use Rattle.refusals.specs.Exactly.{Clean, OneOfThree}
use Rattle.refusals.specs.Answers.{Lent, olds, left, Call}
use Rattle.refusals.proofs.Exactly.{sign_of, exactly_0, exactly_1, exactly_2, one_of_three}
use Rattle.refusals.proofs.Calls.{left_no}
use Rattle.demands.specs.Table.{OfTable, Tabled, never}

-- ---- refusals are told apart by their numbers
abbrev pub number_of : Told → ℕ
number_of (gives xs) = 0
number_of (refuses n) = n.number

same_no : (m n : No) → refuses m ≡ refuses n → m ≡ n
same_no m n e = ap sign_of e

-- ---- what is told where nothing is wrong with the arguments: the causes of numbers 3 and 4, and no other refusal
pub record Late (args : List Asked) (Differs OfZero : Type 0) (given : Told) : Type 0 where
  pub three : Clean args → (given ≡ refuses (sign 3 0 0)) ↔ Differs
  pub four : Clean args → (given ≡ refuses (sign 4 1 0)) ↔ OfZero
  pub either : Clean args → (n : No) → given ≡ refuses n → (n ≡ sign 3 0 0) ⊎ (n ≡ sign 4 1 0)

module _ (args : List Asked) (Differs OfZero : Type 0) (given answer : Told) (lent : List Lent) (new : List (List ℕ))
    (late : Late args Differs OfZero given) (call : Call args given answer lent new) where
  judged-first : (n : No) → judged args ≡ refuses n → answer ≡ refuses n
  judged-first n e = call.answered ∙ ap (λ (t : Told). then t given) e

  judged-fine : judged args ≡ fine → answer ≡ given
  judged-fine e = call.answered ∙ ap (λ (t : Told). then t given) e

  -- a refusal is the judgement's, by number 1 or 2, or comes after it
  pub record Early (n : No) : Type 0 where
    pub judged_so : judged args ≡ refuses n
    pub small : n.number ≤ 2
    pub tabled : OfTable n

  told_by : (n : No) → answer ≡ refuses n → Early n ⊎ (Clean args × (given ≡ refuses n))
  told_by n e = go (one_of_three args)
    where
      early : (m : No) → judged args ≡ refuses m → m ≡ n → m.number ≤ 2 → OfTable m → Early n
      early m j q l t = subst Early q (record { judged_so = j; small = l; tabled = t })

      go : OneOfThree args → Early n ⊎ (Clean args × (given ≡ refuses n))
      go (inl w) =
          let m = sign 1 (1 + w.0) 0 in
          inl (early m w.1 (same_no m n (sym (judged-first m w.1) ∙ e)) (omega arith) (inl (w.0, refl)))
      go (inr (inl w)) =
          let m = sign 2 (1 + w.0) w.1 in
          inl (early m w.2 (same_no m n (sym (judged-first m w.2) ∙ e)) (omega arith) (inr (inl (w.0, w.1, refl))))
      go (inr (inr j)) = inr ((exactly_0 args).0 j, sym (judged-fine j) ∙ e)

  -- after the judgement there is number 3 or 4 alone
  late_number : (n : No) → Clean args → given ≡ refuses n → 3 ≤ n.number
  late_number n c e = go (late.either c n e)
    where
      go : (n ≡ sign 3 0 0) ⊎ (n ≡ sign 4 1 0) → 3 ≤ n.number
      go (inl q) = rw q (omega arith)
      go (inr q) = rw q (omega arith)

  by_judgement : (n : No) → n.number ≤ 2 → answer ≡ refuses n → judged args ≡ refuses n
  by_judgement n l e = go (told_by n e)
    where
      go : Early n ⊎ (Clean args × (given ≡ refuses n)) → judged args ≡ refuses n
      go (inl h) = h.judged_so
      go (inr h) = absurd (omega (arith, l, late_number n h.0 h.1))

  after_it : (n : No) → 3 ≤ n.number → answer ≡ refuses n → Clean args × (given ≡ refuses n)
  after_it n l e = go (told_by n e)
    where
      go : Early n ⊎ (Clean args × (given ≡ refuses n)) → Clean args × (given ≡ refuses n)
      go (inl h) = absurd (omega (arith, l, h.small))
      go (inr h) = h

  then-told : (n : No) → Clean args → given ≡ refuses n → answer ≡ refuses n
  then-told n c e = judged-fine ((exactly_0 args).1 c) ∙ e

  of_table : (n : No) → answer ≡ refuses n → OfTable n
  of_table n e = go (told_by n e)
    where
      go : Early n ⊎ (Clean args × (given ≡ refuses n)) → OfTable n
      go (inl h) = h.tabled
      go (inr h) = inr (inr (late.either h.0 n h.1))

  pub the_table : Tabled args Differs OfZero answer (olds lent) new
  the_table = record {
    exactly_1 = λ k. (
      (λ e. (exactly_1 args k).0 (by_judgement (sign 1 (1 + k) 0) (omega arith) e)),
      (λ m. judged-first (sign 1 (1 + k) 0) ((exactly_1 args k).1 m)),
    );
    exactly_2 = λ k i. (
      (λ e. (exactly_2 args k i).0 (by_judgement (sign 2 (1 + k) i) (omega arith) e)),
      (λ b. judged-first (sign 2 (1 + k) i) ((exactly_2 args k i).1 b)),
    );
    exactly_3 = (
      (λ e. let h = after_it (sign 3 0 0) (omega arith) e in (h.0, (late.three h.0).0 h.1)),
      (λ h. then-told (sign 3 0 0) h.0 ((late.three h.0).1 h.1)),
    );
    exactly_4 = (
      (λ e. let h = after_it (sign 4 1 0) (omega arith) e in (h.0, (late.four h.0).0 h.1)),
      (λ h. then-told (sign 4 1 0) h.0 ((late.four h.0).1 h.1)),
    );
    no_other = of_table;
    unchanged = λ n e.
        call.buffers ∙ ap (λ (t : Told). left t lent) (sym call.answered ∙ e) ∙ left_no n lent;
  }

-- ---- a call that gives what it gives, and never refuses late
pub gives-refuses : {A : Type 0} (xs : List ℕ) (n : No) → gives xs ≡ refuses n → A
gives-refuses xs n e = let z : ◌≡◌ {A = ℕ} 0 1 = cc in absurd (omega arith)

gives_late : (args : List Asked) (xs : List ℕ) → Late args never never (gives xs)
gives_late args xs = record {
  three = λ c. ((λ e. gives-refuses xs (sign 3 0 0) e), (λ h. absurd h));
  four = λ c. ((λ e. gives-refuses xs (sign 4 1 0) e), (λ h. absurd h));
  either = λ c n e. gives-refuses xs n e;
}

pub plain_table : (args : List Asked) (xs : List ℕ) (answer : Told) (lent : List Lent) (new : List (List ℕ))
    → Call args (gives xs) answer lent new → Tabled args never never answer (olds lent) new
plain_table args xs answer lent new = the_table args never never (gives xs) answer lent new (gives_late args xs)
