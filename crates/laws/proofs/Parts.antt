-- A list whose n elements from s on were replaced by those of r: what a call leaves that was lent a part.
use mathlib.Core.Path.{◌≡◌, sym, ap, ap₂, ◌∙◌, subst}
use mathlib.Core.List.{List, ◌++◌, append-nil}
use mathlib.Core.Logic.{⊎_elim}
use Prim.Native.Nat.{ℕ, ◌+◌, ◌-◌, ◌≤◌, ◌<◌}
use native.Mathlib.Omega.{arith}
use lib.ListN.{length, get_or, take, drop, length-append, length-drop, drop_of_length-le, get_or-append}
use lib.Seq.{length-take-le, get_or-take, get_or-drop, get_or-append-add, take_at, drop_at}
use Rattle.laws.proofs.Orders.{le_or_lt}
use Rattle.laws.proofs.Updates.{Mapped}

abbrev pub put : ℕ → ℕ → List ℕ → List ℕ → List ℕ
put s n r v = take s v ++ (r ++ drop n (drop s v))

module _ (s n : ℕ) (r v : List ℕ) (size : length r ≡ n) (room : s + n ≤ length v) where
  front : length (take s v) ≡ s
  front = length-take-le s v (omega arith)

  pub put_size : length (put s n r v) ≡ length v
  put_size =
      length-append (take s v) (r ++ drop n (drop s v)) ∙ ap (λ (k : ℕ). length (take s v) + k) (length-append r (drop n (drop s v)))
      ∙ omega (arith, front, length-drop n (drop s v), length-drop s v)

  pub put_before : (x : ℕ) → x < s → get_or (put s n r v) x 0 ≡ get_or v x 0
  put_before x h = get_or-append (take s v) _ 0 x (omega (arith, front)) ∙ get_or-take s v x 0 h

  past : (x : ℕ) → get_or (put s n r v) (s + x) 0 ≡ get_or (r ++ drop n (drop s v)) x 0
  past x = ap (λ (k : ℕ). get_or (put s n r v) (k + x) 0) (sym front) ∙ get_or-append-add (take s v) (r ++ drop n (drop s v)) x 0

  pub put_inside : (x : ℕ) → x < n → get_or (put s n r v) (s + x) 0 ≡ get_or r x 0
  put_inside x h = past x ∙ get_or-append r _ 0 x (omega arith)

  pub put_after : (x : ℕ) → s + n ≤ x → get_or (put s n r v) x 0 ≡ get_or v x 0
  put_after x h =
      let e : x ≡ s + (length r + (x - s - n)) = omega arith in
      let f : s + (n + (x - s - n)) ≡ x = omega arith in
      ap (λ (k : ℕ). get_or (put s n r v) k 0) e ∙ past (length r + (x - s - n)) ∙ get_or-append-add r (drop n (drop s v)) (x - s - n) 0
      ∙ get_or-drop n (drop s v) (x - s - n) 0 ∙ get_or-drop s v (n + (x - s - n)) 0 ∙ ap (λ (k : ℕ). get_or v k 0) f

-- two parts, one behind the other, that fill a list
pub put_two : (m n : ℕ) (q r v : List ℕ) → length q ≡ m → length r ≡ n → length v ≡ m + n → put m n r (put 0 m q v) ≡ q ++ r
put_two m n q r v hq hr hv =
    ap₂ (λ (s t : List ℕ). s ++ (r ++ drop n t)) (take_at q (drop m v) m hq) (drop_at q (drop m v) m hq)
    ∙ ap (λ (t : List ℕ). q ++ (r ++ t)) (drop_of_length-le (drop m v) {i = n} (omega (arith, length-drop m v)))
    ∙ ap (λ (t : List ℕ). q ++ t) (append-nil r)

-- a loop that stores n elements a turn
pub mapped_put : (g : ℕ → ℕ → ℕ) (s n : ℕ) (r old new : List ℕ) → length r ≡ n → s + n ≤ length old
    → ((k : ℕ) → k < n → get_or r k 0 ≡ g (s + k) (get_or old (s + k) 0)) → Mapped g s old new → Mapped g (s + n) old (put s n r new)
mapped_put g s n r old new size room e m = record {
  same_length = put_size s n r new size fits ∙ m.same_length;
  passed = λ j q. ⊎_elim (inside j q) (λ h. put_before s n r new size fits j h ∙ m.passed j h) (le_or_lt s j);
  rest = λ j q. put_after s n r new size fits j q ∙ m.rest j (omega arith);
}
  where
    fits : s + n ≤ length new
    fits = omega (arith, m.same_length)

    inside : (j : ℕ) → j < s + n → s ≤ j → get_or (put s n r new) j 0 ≡ g j (get_or old j 0)
    inside j q l =
        let h : s + (j - s) ≡ j = omega arith in
        subst (λ (x : ℕ). get_or (put s n r new) x 0 ≡ g x (get_or old x 0)) h
        (put_inside s n r new size fits (j - s) (omega arith) ∙ e (j - s) (omega arith))
