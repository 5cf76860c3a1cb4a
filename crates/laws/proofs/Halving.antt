-- The tree of a fast transform, over any commutative ring: X^(t+t) - z*z = (X^t - z)(X^t + z), node by node, in heap order.
-- Node n has the number W n; its children are n + n and n + n + 1, with W (n + n) = z and W (n + n + 1) = - z where z * z = W n.
use mathlib.Core.Path.{◌≡◌, refl, sym, ◌∙◌, ap, subst}
use mathlib.Core.List.{[], ◌∷◌}
use Prim.Native.Nat.{ℕ, zero, suc, ◌+◌, ◌*◌, ◌-◌, ◌≤◌, ◌<◌}
use native.Mathlib.Nat.{mul-le-mul_right}
use native.Mathlib.Decide.{dec_lt}
use native.Mathlib.Omega.{arith}
use Rattle.laws.specs.Rings.{CRing, pow, poly}
use Rattle.laws.proofs.Rings.{ring, mul-neg}
use Rattle.laws.proofs.RingSolver.{v, k, ◌:+◌, ◌:*◌, :-◌, ring_eq}
use Rattle.laws.proofs.Sums.{pow-one, pow-add, poly_ext, poly-add, poly-neg, poly_scale, poly_split}

-- 2 to the power d, as it doubles
unfoldable pub dbl : ℕ → ℕ
dbl zero = 1
dbl (suc d) = dbl d + dbl d

pub dbl_pos : (d : ℕ) → 0 < dbl d
unfolding dbl
dbl_pos zero = omega arith
dbl_pos (suc d) = let h = dbl_pos d in omega arith

module _ (R : CRing) where
  open R use {A, add as ◌⊕◌, mul as ◌⊗◌, neg as ⊖◌, 𝟘, 𝟙}

  infixl 60 ◌⊕◌
  infixl 70 ◌⊗◌
  infix 80 ⊖◌
  pub neg_sq : (a : A) → ⊖ a ⊗ ⊖ a ≡ a ⊗ a
  neg_sq a = simp ring

  -- a block of t + t coefficients falls into two of t: forward, at x with x^t = z and at x with x^t = - z
  pub fwd_left : (t : ℕ) (c : ℕ → A) (x z : A) → pow R x t ≡ z → poly R (t + t) c x ≡ poly R t (λ j. c j ⊕ c (t + j) ⊗ z) x
  fwd_left t c x z e =
      poly_split R t t c x ∙ ap (λ y. poly R t c x ⊕ y ⊗ poly R t (λ j. c (t + j)) x) e
      ∙ sym (poly-add R t c (λ j. c (t + j) ⊗ z) x ∙ ap (λ y. poly R t c x ⊕ y) (poly_scale R t z (λ j. c (t + j)) x))

  pub fwd_right : (t : ℕ) (c : ℕ → A) (x z : A) → pow R x t ≡ ⊖ z → poly R (t + t) c x ≡ poly R t (λ j. c j ⊕ ⊖ (c (t + j) ⊗ z)) x
  fwd_right t c x z e =
      fwd_left t c x (⊖ z) e
      ∙ poly_ext R t (λ j. c j ⊕ c (t + j) ⊗ ⊖ z) (λ j. c j ⊕ ⊖ (c (t + j) ⊗ z)) x (λ j h. ap (λ y. c j ⊕ y) (mul-neg R (c (t + j)) z))

  -- backward: q is put together of the blocks c and d, with y the inverse of z; its value is twice that of c, and twice that of d
  pub bwd_left : (t : ℕ) (c d q : ℕ → A) (x z y : A) → z ⊗ y ≡ 𝟙
      → ((j : ℕ) → j < t → q j ≡ c j ⊕ d j) → ((j : ℕ) → j < t → q (t + j) ≡ (c j ⊕ ⊖ d j) ⊗ y)
      → pow R x t ≡ z → poly R (t + t) q x ≡ poly R t c x ⊕ poly R t c x
  bwd_left t c d q x z y inv low high e =
      poly_split R t t q x
      ∙ (λ i. (poly_ext R t q (λ j. c j ⊕ d j) x low ∙ poly-add R t c d x) i ⊕ e i ⊗
      (poly_ext R t (λ j. q (t + j)) (λ j. (c j ⊕ ⊖ d j) ⊗ y) x high ∙ poly_scale R t y (λ j. c j ⊕ ⊖ d j) x
      ∙ ap (λ w. y ⊗ w) (poly-add R t c (λ j. ⊖ d j) x ∙ ap (λ w. poly R t c x ⊕ w) (poly-neg R t d x))) i)
      ∙ i_1 (poly R t c x) (poly R t d x) z y
      ∙ ap (λ w. (poly R t c x ⊕ poly R t d x) ⊕ w ⊗ (poly R t c x ⊕ ⊖ poly R t d x)) inv
      ∙ i_2 (poly R t c x) (poly R t d x)
    where
      i_1 : (a b w u : A) → (a ⊕ b) ⊕ w ⊗ (u ⊗ (a ⊕ ⊖ b)) ≡ (a ⊕ b) ⊕ (w ⊗ u) ⊗ (a ⊕ ⊖ b)
      i_1 a b w u = simp ring

      i_2 : (a b : A) → (a ⊕ b) ⊕ 𝟙 ⊗ (a ⊕ ⊖ b) ≡ a ⊕ a
      i_2 a b = ring_eq R (a ∷ b ∷ []) ((v 0 :+ v 1) :+ k 1 :* (v 0 :+ :- v 1)) (v 0 :+ v 0) refl

  pub bwd_right : (t : ℕ) (c d q : ℕ → A) (x z y : A) → z ⊗ y ≡ 𝟙
      → ((j : ℕ) → j < t → q j ≡ c j ⊕ d j) → ((j : ℕ) → j < t → q (t + j) ≡ (c j ⊕ ⊖ d j) ⊗ y)
      → pow R x t ≡ ⊖ z → poly R (t + t) q x ≡ poly R t d x ⊕ poly R t d x
  bwd_right t c d q x z y inv low high =
      bwd_left t d c q x (⊖ z) (⊖ y) (i_1 z y ∙ inv)
      (λ j h. low j h ∙ R.add_comm (c j) (d j)) (λ j h. high j h ∙ i_2 (c j) (d j) y)
    where
      i_1 : (a b : A) → ⊖ a ⊗ ⊖ b ≡ a ⊗ b
      i_1 a b = simp ring

      i_2 : (a b w : A) → (a ⊕ ⊖ b) ⊗ w ≡ (b ⊕ ⊖ a) ⊗ ⊖ w
      i_2 a b w = ring_eq R (a ∷ b ∷ w ∷ []) ((v 0 :+ :- v 1) :* v 2) ((v 1 :+ :- v 0) :* :- v 2) refl

  -- the numbers of a tree with N inner nodes, and the inverse U n of each W (n + n)
  pub record Roots (N : ℕ) (W U : ℕ → A) : Type 0 where
    pub square : (n : ℕ) → 0 < n → n < N → W (n + n) ⊗ W (n + n) ≡ W n
    pub odd : (n : ℕ) → 0 < n → n < N → W (n + n + 1) ≡ ⊖ W (n + n)
    pub inverse : (n : ℕ) → 0 < n → n < N → W (n + n) ⊗ U n ≡ 𝟙

  module _ (N : ℕ) (W U : ℕ → A) (roots : Roots N W U) where
    pub inner : (d n : ℕ) → dbl (suc d) * (n + 1) ≤ N + N → n < N
    unfolding dbl
    inner d n l = omega (arith, mul-le-mul_right (n + 1) (dbl_pos d))

    -- the r-th leaf below node n, d levels down, is a root of X^(2^d) - W n
    abbrev LeafPow : ℕ → Type 0
    LeafPow d = (n r : ℕ) → 0 < n → dbl d * (n + 1) ≤ N + N → r < dbl d → pow R (W (dbl d * n + r)) (dbl d) ≡ W n

    leaf_step : (d : ℕ) → LeafPow d → (n r : ℕ) → 0 < n → dbl (suc d) * (n + 1) ≤ N + N → r < dbl (suc d)
        → Dec (r < dbl d) → pow R (W (dbl (suc d) * n + r)) (dbl (suc d)) ≡ W n
    unfolding dbl
    leaf_step d ih n r h l b (yes c) =
        let x : A = W ((dbl d + dbl d) * n + r) in
        let p : dbl d * (n + n) + r ≡ (dbl d + dbl d) * n + r = omega arith in
        let e : pow R x (dbl d) ≡ W (n + n) = subst (λ m. pow R (W m) (dbl d) ≡ W (n + n)) p (ih (n + n) r (omega arith) (omega arith) c) in
        pow-add R x (dbl d) (dbl d) ∙ (λ i. e i ⊗ e i) ∙ roots.square n h (inner d n l)
    leaf_step d ih n r h l b (no c) =
        let x : A = W ((dbl d + dbl d) * n + r) in
        let p : dbl d * (n + n + 1) + (r - dbl d) ≡ (dbl d + dbl d) * n + r = omega arith in
        let e : pow R x (dbl d) ≡ ⊖ W (n + n) =
        subst (λ m. pow R (W m) (dbl d) ≡ W (n + n + 1)) p (ih (n + n + 1) (r - dbl d) (omega arith) (omega arith) (omega arith))
        ∙ roots.odd n h (inner d n l) in
        pow-add R x (dbl d) (dbl d) ∙ (λ i. e i ⊗ e i) ∙ neg_sq (W (n + n)) ∙ roots.square n h (inner d n l)

    pub leaf_pow : (d n r : ℕ) → 0 < n → dbl d * (n + 1) ≤ N + N → r < dbl d → pow R (W (dbl d * n + r)) (dbl d) ≡ W n
    unfolding dbl
    leaf_pow zero n r h l b = pow-one R (W (1 * n + r)) ∙ ap (λ m. W m) (let e : 1 * n + r ≡ n = omega arith in e)
    leaf_pow (suc d) n r h l b = leaf_step d (leaf_pow d) n r h l b (dec_lt r (dbl d))
