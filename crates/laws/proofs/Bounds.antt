-- Lists of n numbers, each below a bound.
use mathlib.Core.Path.{◌≡◌, refl, sym, ◌∙◌, subst}
use mathlib.Core.List.{List}
use mathlib.Core.Logic.{⊎_elim}
use Prim.Native.Nat.{ℕ, ◌+◌, ◌≤◌, ◌<◌}
use native.Mathlib.Nat.{ℕ_set}
use native.Mathlib.Bridge.{le_prop}
use native.Mathlib.Decide.{ℕ_discrete}
use native.Mathlib.Omega.{arith}
use lib.ListN.{length, get_or, set, get_or-eq_default}
use lib.Seq.{get_or-set_same, get_or-set_other}
use Rattle.laws.specs.Lists.{tab, Below}
use Rattle.laws.proofs.Orders.{le_or_lt}
use Rattle.laws.proofs.Lists.{length-tab, get_or-tab}
use Rattle.laws.proofs.Updates.{Mapped}

-- a list given by an index
pub tab_below : (b n : ℕ) (f : ℕ → ℕ) → 0 < b → ((k : ℕ) → k < n → f k < b) → Below b n (tab n f)
tab_below b n f pos h = record { size = length-tab n f; each = λ i. ⊎_elim (past i) (within i) (le_or_lt n i) }
  where
    past : (i : ℕ) → n ≤ i → get_or (tab n f) i 0 < b
    past i l =
        let q : length (tab n f) ≤ i = omega (arith, length-tab n f) in
        subst (λ (m : ℕ). m < b) (sym (get_or-eq_default (tab n f) 0 q)) pos

    within : (i : ℕ) → i < n → get_or (tab n f) i 0 < b
    within i l = subst (λ (m : ℕ). m < b) (sym (get_or-tab n f 0 i l)) (h i l)

-- there is one proof of it at most
pub below_prop : (b n : ℕ) (l : List ℕ) → IsProp (Below b n l)
below_prop b n l x y = λ i. record { size = ℕ_set (length l) n x.size y.size i; each = λ k. le_prop (x.each k) (y.each k) i }

-- what a loop has not come to
pub rest_below : {b n i : ℕ} {g : ℕ → ℕ → ℕ} {old new : List ℕ} → Below b n old → Mapped g i old new → (j : ℕ) → i ≤ j → get_or new j 0 < b
rest_below {b} l m j q = subst (λ (x : ℕ). x < b) (sym (m.rest j q)) (l.each j)

-- a loop that stores numbers below the bound
pub mapped_below : {b n i : ℕ} {g : ℕ → ℕ → ℕ} {old new : List ℕ} → ((j : ℕ) → g j (get_or old j 0) < b) → Below b n old → Mapped g i old new
    → Below b n new
mapped_below {b} {n} {i} {g} {old} {new} h l m = record {
  size = m.same_length ∙ l.size;
  each = λ j. ⊎_elim
      (rest_below l m j)
      (λ q. subst (λ (x : ℕ). x < b) (sym (m.passed j q)) (h j))
      (le_or_lt i j);
}

-- of a list that is known to be another
pub below_as : {b n : ℕ} {k l : List ℕ} → k ≡ l → Below b n l → Below b n k
below_as {b} {n} e h = subst (λ (x : List ℕ). Below b n x) (sym e) h

-- two lists of one size, by the length of the first
pub below_both : {b n : ℕ} {k l : List ℕ} → Below b n k → Below b n l → Below b (length k) k × Below b (length k) l
below_both h g = (record { size = refl; each = h.each }, record { size = g.size ∙ sym h.size; each = g.each })

-- n numbers that were stored one by one
pub is_below : {b n : ℕ} {l : List ℕ} → 0 < b → length l ≡ n → ((j : ℕ) → j < n → get_or l j 0 < b) → Below b n l
is_below {b} {n} {l} pos e h = record {
  size = e;
  each = λ j. ⊎_elim (past j) (h j) (le_or_lt n j);
}
  where
    past : (j : ℕ) → n ≤ j → get_or l j 0 < b
    past j q = let g : length l ≤ j = omega arith in subst (λ (x : ℕ). x < b) (sym (get_or-eq_default l 0 g)) pos

-- one more stored
pub stored_below : {b : ℕ} (l : List ℕ) (i v : ℕ) → i < length l → v < b → ((j : ℕ) → j < i → get_or l j 0 < b)
    → (j : ℕ) → j < i + 1 → get_or (set l i v) j 0 < b
stored_below {b} l i v h g p j q = at (ℕ_discrete j i)
  where
    at : Dec (j ≡ i) → get_or (set l i v) j 0 < b
    at (yes e) = subst (λ (x : ℕ). get_or (set l i v) x 0 < b) (sym e) (subst (λ (x : ℕ). x < b) (sym (get_or-set_same l i v 0 h)) g)
    at (no e) = subst (λ (x : ℕ). x < b) (sym (get_or-set_other l i j v 0 e)) (p j (omega arith))
