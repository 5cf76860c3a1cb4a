-- Lists given by an index: their length, their elements, and when two are the same.
use mathlib.Core.Path.{◌≡◌, refl, sym, ap, ◌∙◌, subst}
use mathlib.Core.List.{List, [], ◌∷◌, ◌++◌}
use Prim.Native.Nat.{ℕ, zero, suc, ◌+◌, ◌-◌, ◌<◌, ◌≤◌}
use native.Mathlib.Nat.{add-zero, add-suc, suc-add, zero-add, le_of_suc-le-suc, not-suc-le-zero}
use native.Mathlib.Decide.{dec_lt}
use native.Mathlib.Omega.{arith}
use lib.ListN.{length, get_or, take, drop, replicate, length-take, get_or-eq_default}
use lib.Seq.{ext_get_or, take_at, get_or-take, get_or-drop}
use Rattle.laws.specs.Lists.{tab, tab_from}

module _ {A : Type 0} where
  length_from : (i n : ℕ) (f : ℕ → A) → length (tab_from i n f) ≡ n
  unfolding tab_from
  length_from i zero f = refl
  length_from i (suc n) f = ap suc (length_from (suc i) n f)

  get_or_from : (i n : ℕ) (f : ℕ → A) (d : A) (k : ℕ) → k < n → get_or (tab_from i n f) k d ≡ f (i + k)
  unfolding tab_from
  get_or_from i zero f d k h = absurd (not-suc-le-zero h)
  get_or_from i (suc n) f d zero h = ap f (sym (add-zero i))
  get_or_from i (suc n) f d (suc k) h = get_or_from (suc i) n f d k (le_of_suc-le-suc h) ∙ ap f (suc-add i k ∙ sym (add-suc i k))

  pub length-tab : (n : ℕ) (f : ℕ → A) → length (tab n f) ≡ n
  unfolding tab
  length-tab n f = length_from 0 n f

  -- element k, whatever stands for what is past the end
  pub get_or-tab : (n : ℕ) (f : ℕ → A) (d : A) (k : ℕ) → k < n → get_or (tab n f) k d ≡ f k
  unfolding tab
  get_or-tab n f d k h = get_or_from 0 n f d k h ∙ ap f (zero-add k)

  -- a list that has these elements
  pub is_tab : (n : ℕ) (f : ℕ → A) (d : A) (l : List A) → length l ≡ n → ((k : ℕ) → k < n → get_or l k d ≡ f k) → l ≡ tab n f
  is_tab n f d l h e =
      ext_get_or d l (tab n f) (h ∙ sym (length-tab n f))
      (λ k q. let g : k < n = omega arith in e k g ∙ sym (get_or-tab n f d k g))

  from_ext : (i n : ℕ) (f g : ℕ → A) → ((k : ℕ) → i ≤ k → k < i + n → f k ≡ g k) → tab_from i n f ≡ tab_from i n g
  unfolding tab_from
  from_ext i zero f g e = refl
  from_ext i (suc n) f g e =
      λ j. e i (omega arith) (omega arith) j ∷ from_ext (suc i) n f g (λ k a b. e k (omega arith) (omega arith)) j

  pub tab_ext : (n : ℕ) (f g : ℕ → A) → ((k : ℕ) → k < n → f k ≡ g k) → tab n f ≡ tab n g
  unfolding tab
  tab_ext n f g e = from_ext 0 n f g (λ k a b. e k (omega arith))

-- ---- a list given by an index, cut in two
module _ {A : Type 0} where
  from_add : (i n k : ℕ) (f : ℕ → A) → tab_from i (n + k) f ≡ tab_from i n f ++ tab_from (i + n) k f
  unfolding tab_from
  from_add i zero k f = ap (λ (m : ℕ). tab_from i m f) (zero-add k) ∙ ap (λ (m : ℕ). tab_from m k f) (sym (add-zero i))
  from_add i (suc n) k f =
      let e : suc i + n ≡ i + suc n = omega arith in
      ap (λ (m : ℕ). tab_from i m f) (suc-add n k)
      ∙ ap (λ (l : List A). f i ∷ l) (from_add (suc i) n k f ∙ ap (λ (m : ℕ). tab_from (suc i) n f ++ tab_from m k f) e)

  from_shift : (d j k : ℕ) (f : ℕ → A) → tab_from (d + j) k f ≡ tab_from j k (λ i. f (d + i))
  unfolding tab_from
  from_shift d j zero f = refl
  from_shift d j (suc k) f =
      ap (λ (l : List A). f (d + j) ∷ l) (ap (λ (m : ℕ). tab_from m k f) (sym (add-suc d j)) ∙ from_shift d (suc j) k f)

  pub tab-add : (n k : ℕ) (f : ℕ → A) → tab (n + k) f ≡ tab n f ++ tab k (λ i. f (n + i))
  unfolding tab
  tab-add n k f =
      let e : 0 + n ≡ n + 0 = omega arith in
      from_add 0 n k f ∙ ap (λ (l : List A). tab_from 0 n f ++ l) (ap (λ (m : ℕ). tab_from m k f) e ∙ from_shift n 0 k f)

  pub take-tab : (k n : ℕ) (f : ℕ → A) → k ≤ n → take k (tab n f) ≡ tab k f
  take-tab k n f h =
      let e : n ≡ k + (n - k) = omega arith in
      ap (λ (m : ℕ). take k (tab m f)) e ∙ ap (take k) (tab-add k (n - k) f)
      ∙ take_at (tab k f) (tab (n - k) (λ i. f (k + i))) k (length-tab k f)

pub get_or-zeros : (n i : ℕ) → ◌≡◌ {A = ℕ} (get_or (replicate n 0) i 0) 0
get_or-zeros zero i = refl
get_or-zeros (suc n) zero = refl
get_or-zeros (suc n) (suc i) = get_or-zeros n i

-- ---- a bound on every number of a list, kept by its parts and joins
module _ (b : ℕ) (pos : 0 < b) where
  pub each_take : (n : ℕ) (l : List ℕ) → ((i : ℕ) → get_or l i 0 < b) → (i : ℕ) → get_or (take n l) i 0 < b
  each_take n l h i =
      elim (dec_lt i n) [
        | yes k ↦ subst (λ (x : ℕ). x < b) (sym (get_or-take n l i 0 k)) (h i)
        | no k ↦
            let e : get_or (take n l) i 0 ≡ 0 = get_or-eq_default (take n l) 0 (omega (arith, length-take n l)) in
            subst (λ (x : ℕ). x < b) (sym e) pos
      ]

  pub each-drop : (n : ℕ) (l : List ℕ) → ((i : ℕ) → get_or l i 0 < b) → (i : ℕ) → get_or (drop n l) i 0 < b
  each-drop n l h i = subst (λ (x : ℕ). x < b) (sym (get_or-drop n l i 0)) (h (n + i))

  pub each_append : (l m : List ℕ) → ((i : ℕ) → get_or l i 0 < b) → ((i : ℕ) → get_or m i 0 < b) → (i : ℕ) → get_or (l ++ m) i 0 < b
  each_append [] m h k i = k i
  each_append (x ∷ l) m h k zero = h 0
  each_append (x ∷ l) m h k (suc i) = each_append l m (λ j. h (suc j)) k i

  pub each-zero : (n i : ℕ) → get_or (replicate n 0) i 0 < b
  each-zero n i = subst (λ (x : ℕ). x < b) (sym (get_or-zeros n i)) pos
