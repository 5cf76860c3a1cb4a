-- Finite sums, powers and values of polynomials over any commutative ring; sums of numbers.
use mathlib.Core.Path.{◌≡◌, refl, sym, ◌∙◌, ap}
use mathlib.Core.List.{[], ◌∷◌}
use mathlib.Core.Logic.{◌≢◌}
use Prim.Native.Nat.{ℕ, zero, suc, ◌+◌, ◌<◌}
use native.Mathlib.Nat.{add-suc, add-zero, le_step, lt-suc_self, not-suc-le-zero}
use native.Mathlib.Decide.{dec_lt}
use native.Mathlib.Omega.{arith}
use Rattle.laws.specs.Rings.{CRing, pow, sum, poly}
use Rattle.laws.specs.Sums.{total}
use Rattle.laws.proofs.Rings.{ring, zero-add, mul-zero, mul_left_comm, neg-zero, neg-add, add-mul, neg-mul}
use Rattle.laws.proofs.RingSolver.{v, ◌:+◌, ring_eq}

module _ (R : CRing) where
  open R use {A, add as ◌⊕◌, mul as ◌⊗◌, neg as ⊖◌, 𝟘, 𝟙}

  infixl 60 ◌⊕◌
  infixl 70 ◌⊗◌
  infix 80 ⊖◌
  pub sum_ext : (n : ℕ) (f g : ℕ → A) → ((i : ℕ) → i < n → f i ≡ g i) → sum R n f ≡ sum R n g
  unfolding sum
  sum_ext zero f g h = refl
  sum_ext (suc n) f g h = λ i. sum_ext n f g (λ j l. h j (le_step l)) i ⊕ h n (lt-suc_self n) i

  i_four : (a b c d : A) → a ⊕ b ⊕ (c ⊕ d) ≡ a ⊕ c ⊕ (b ⊕ d)
  i_four a b c d = ring_eq R (a ∷ b ∷ c ∷ d ∷ []) (v 0 :+ v 1 :+ (v 2 :+ v 3)) (v 0 :+ v 2 :+ (v 1 :+ v 3)) refl

  pub sum-add : (n : ℕ) (f g : ℕ → A) → sum R n (λ i. f i ⊕ g i) ≡ sum R n f ⊕ sum R n g
  unfolding sum
  sum-add zero f g = sym (R.add-zero 𝟘)
  sum-add (suc n) f g = ap (λ x. x ⊕ (f n ⊕ g n)) (sum-add n f g) ∙ i_four (sum R n f) (sum R n g) (f n) (g n)

  pub sum_scale : (n : ℕ) (a : A) (f : ℕ → A) → sum R n (λ i. a ⊗ f i) ≡ a ⊗ sum R n f
  unfolding sum
  sum_scale zero a f = sym (mul-zero R a)
  sum_scale (suc n) a f = ap (λ x. x ⊕ a ⊗ f n) (sum_scale n a f) ∙ sym (R.mul-add a (sum R n f) (f n))

  pub sum_scale_right : (n : ℕ) (f : ℕ → A) (a : A) → sum R n (λ i. f i ⊗ a) ≡ sum R n f ⊗ a
  sum_scale_right n f a =
      sum_ext n (λ i. f i ⊗ a) (λ i. a ⊗ f i) (λ i l. R.mul_comm (f i) a) ∙ sum_scale n a f ∙ R.mul_comm a (sum R n f)

  pub sum-neg : (n : ℕ) (f : ℕ → A) → sum R n (λ i. ⊖ f i) ≡ ⊖ sum R n f
  unfolding sum
  sum-neg zero f = sym (neg-zero R)
  sum-neg (suc n) f = ap (λ x. x ⊕ ⊖ f n) (sum-neg n f) ∙ sym (neg-add R (sum R n f) (f n))

  sum-zero : (n : ℕ) → sum R n (λ i. 𝟘) ≡ 𝟘
  unfolding sum
  sum-zero zero = refl
  sum-zero (suc n) = ap (λ x. x ⊕ 𝟘) (sum-zero n) ∙ R.add-zero 𝟘

  pub sum_split : (m n : ℕ) (f : ℕ → A) → sum R (m + n) f ≡ sum R m f ⊕ sum R n (λ i. f (m + i))
  unfolding sum
  sum_split m zero f = ap (λ l. sum R l f) (add-zero m) ∙ sym (R.add-zero (sum R m f))
  sum_split m (suc n) f =
      ap (λ l. sum R l f) (add-suc m n) ∙ ap (λ x. x ⊕ f (m + n)) (sum_split m n f)
      ∙ R.add_assoc (sum R m f) (sum R n (λ i. f (m + i))) (f (m + n))

  pub sum_swap : (m n : ℕ) (f : ℕ → ℕ → A) → sum R m (λ i. sum R n (λ j. f i j)) ≡ sum R n (λ j. sum R m (λ i. f i j))
  unfolding sum
  sum_swap zero n f = sym (sum-zero n)
  sum_swap (suc m) n f = ap (λ x. x ⊕ sum R n (f m)) (sum_swap m n f) ∙ sym (sum-add n (λ j. sum R m (λ i. f i j)) (f m))

  -- a sum of zeros, and one whose only term that is not 0 is known
  pub sum_none : (n : ℕ) (f : ℕ → A) → ((i : ℕ) → i < n → f i ≡ 𝟘) → sum R n f ≡ 𝟘
  sum_none n f h = sum_ext n f (λ i. 𝟘) h ∙ sum-zero n

  pub sum_single : (n : ℕ) (f : ℕ → A) (j : ℕ) → j < n → ((i : ℕ) → i < n → i ≢ j → f i ≡ 𝟘) → sum R n f ≡ f j
  unfolding sum
  sum_single zero f j l h = absurd (not-suc-le-zero l)
  sum_single (suc n) f j l h = go (dec_lt j n) (sum_single n f j)
    where
      go : Dec (j < n) → (j < n → ((i : ℕ) → i < n → i ≢ j → f i ≡ 𝟘) → sum R n f ≡ f j) → sum R n f ⊕ f n ≡ f j
      go (yes q) ih = (λ i. ih q (λ m r. h m (omega arith)) i ⊕ h n (omega arith) (omega arith) i) ∙ R.add-zero (f j)
      go (no q) ih =
          let e : n ≡ j = omega arith in
          ap (λ x. x ⊕ f n) (sum_none n f (λ m r. h m (omega arith) (omega arith))) ∙ zero-add R (f n) ∙ ap (λ m. f m) e

  pub pow-one : (x : A) → pow R x 1 ≡ x
  unfolding pow
  pow-one x = simp ring

  pub pow-add : (x : A) (m n : ℕ) → pow R x (m + n) ≡ pow R x m ⊗ pow R x n
  unfolding pow
  pow-add x m zero = ap (λ l. pow R x l) (add-zero m) ∙ sym (R.mul-one (pow R x m))
  pow-add x m (suc n) =
      ap (λ l. pow R x l) (add-suc m n) ∙ ap (λ y. y ⊗ x) (pow-add x m n) ∙ R.mul_assoc (pow R x m) (pow R x n) x

  pub poly-one : (c : ℕ → A) (x : A) → poly R 1 c x ≡ c 0
  unfolding pow poly sum
  poly-one c x = simp ring

  pub poly_ext : (n : ℕ) (c d : ℕ → A) (x : A) → ((j : ℕ) → j < n → c j ≡ d j) → poly R n c x ≡ poly R n d x
  unfolding poly
  poly_ext n c d x h = sum_ext n (λ j. c j ⊗ pow R x j) (λ j. d j ⊗ pow R x j) (λ j l. ap (λ y. y ⊗ pow R x j) (h j l))

  pub poly-add : (n : ℕ) (c d : ℕ → A) (x : A) → poly R n (λ j. c j ⊕ d j) x ≡ poly R n c x ⊕ poly R n d x
  unfolding poly
  poly-add n c d x =
      sum_ext n _ _ (λ j l. add-mul R (c j) (d j) (pow R x j)) ∙ sum-add n (λ j. c j ⊗ pow R x j) (λ j. d j ⊗ pow R x j)

  pub poly-neg : (n : ℕ) (c : ℕ → A) (x : A) → poly R n (λ j. ⊖ c j) x ≡ ⊖ poly R n c x
  unfolding poly
  poly-neg n c x = sum_ext n _ _ (λ j l. neg-mul R (c j) (pow R x j)) ∙ sum-neg n (λ j. c j ⊗ pow R x j)

  pub poly_scale : (n : ℕ) (a : A) (c : ℕ → A) (x : A) → poly R n (λ j. c j ⊗ a) x ≡ a ⊗ poly R n c x
  unfolding poly
  poly_scale n a c x = sum_ext n _ _ (λ j l. i_move (c j) a (pow R x j)) ∙ sum_scale n a (λ j. c j ⊗ pow R x j)
    where
      i_move : (b e y : A) → b ⊗ e ⊗ y ≡ e ⊗ (b ⊗ y)
      i_move b e y = simp ring

  -- the value of a sum of polynomials
  pub poly-sum : (n m : ℕ) (c : ℕ → ℕ → A) (x : A) → poly R n (λ j. sum R m (λ i. c i j)) x ≡ sum R m (λ i. poly R n (c i) x)
  unfolding poly
  poly-sum n m c x =
      sum_ext n _ _ (λ j l. sym (sum_scale_right m (λ i. c i j) (pow R x j))) ∙ sum_swap n m (λ j i. c i j ⊗ pow R x j)

  pub poly_split : (m n : ℕ) (c : ℕ → A) (x : A) → poly R (m + n) c x ≡ poly R m c x ⊕ pow R x m ⊗ poly R n (λ j. c (m + j)) x
  unfolding poly
  poly_split m n c x =
      sum_split m n (λ j. c j ⊗ pow R x j)
      ∙ ap (λ y. sum R m (λ j. c j ⊗ pow R x j) ⊕ y)
      (sum_ext n _ _ (λ j l. ap (λ y. c (m + j) ⊗ y) (pow-add x m j) ∙ mul_left_comm R (c (m + j)) (pow R x m) (pow R x j))
      ∙ sum_scale n (pow R x m) (λ j. c (m + j) ⊗ pow R x j))

  -- Horner: one more coefficient at the front
  pub poly_front : (n : ℕ) (c : ℕ → A) (x : A) → poly R (suc n) c x ≡ c 0 ⊕ x ⊗ poly R n (λ j. c (suc j)) x
  unfolding poly sum pow
  poly_front zero c x = i_base (c 0) x
    where
      i_base : (a y : A) → 𝟘 ⊕ a ⊗ 𝟙 ≡ a ⊕ y ⊗ 𝟘
      i_base a y = simp ring
  poly_front (suc n) c x =
      ap (λ y. y ⊕ c (suc n) ⊗ (pow R x n ⊗ x)) (poly_front n c x)
      ∙ i_step (c 0) x (poly R n (λ j. c (suc j)) x) (c (suc n)) (pow R x n)
    where
      i_step : (a y p b q : A) → a ⊕ y ⊗ p ⊕ b ⊗ (q ⊗ y) ≡ a ⊕ y ⊗ (p ⊕ b ⊗ q)
      i_step a y p b q = simp ring

pub total_ext : (n : ℕ) (f g : ℕ → ℕ) → ((i : ℕ) → i < n → f i ≡ g i) → total n f ≡ total n g
unfolding total
total_ext zero f g h = refl
total_ext (suc n) f g h = λ i. total_ext n f g (λ j l. h j (le_step l)) i + h n (lt-suc_self n) i
