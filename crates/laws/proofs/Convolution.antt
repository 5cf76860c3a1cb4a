-- The product of two polynomials over any commutative ring, plain and modulo X^N + 1; and the identity of matrix products on which the opening
-- of a packet rests.
use mathlib.Core.Path.{◌≡◌, refl, sym, ◌∙◌, ap, subst}
use mathlib.Core.List.{[], ◌∷◌}
use mathlib.Core.Bool.{Bool, true, false}
use mathlib.Core.Logic.{◌≢◌, ◌⊎◌, inl, inr}
use Prim.Native.Nat.{ℕ, zero, suc, ◌+◌, ◌-◌, ◌≤◌, ◌<◌}
use native.Mathlib.Nat.{add-sub_cancel_left}
use native.Mathlib.Omega.{arith}
use lib.Dec.{leb, T, le→leb, leb→le}
use Rattle.laws.specs.Rings.{CRing, pow, sum, poly}
use Rattle.laws.proofs.Orders.{le_or_lt}
use Rattle.laws.proofs.Rings.{ring, zero-add, mul-zero, zero-mul, mul-neg, add-mul}
use Rattle.laws.proofs.RingSolver.{v, ◌:+◌, :-◌, ring_eq}
use Rattle.laws.proofs.Sums.{sum_ext, sum-add, sum_scale, sum_scale_right, sum-neg, sum_split, sum_swap}
use Rattle.laws.proofs.Sums.{sum_none, sum_single, pow-add, poly_ext, poly-neg, poly_split}

module _ (R : CRing) where
  open R use {A, add as ◌⊕◌, mul as ◌⊗◌, neg as ⊖◌, 𝟘, 𝟙}

  infixl 60 ◌⊕◌
  infixl 70 ◌⊗◌
  infix 80 ⊖◌
  -- coefficient m of a times b
  unfoldable pub conv : (ℕ → A) → (ℕ → A) → ℕ → A
  conv a b m = sum R (suc m) (λ i. a i ⊗ b (m - i))

  -- coefficient m of X^i times b, modulo X^N + 1
  unfoldable pub wrap : ℕ → (ℕ → A) → ℕ → ℕ → A
  wrap N b m i = elim (leb i m) [ true ↦ b (m - i) | false ↦ ⊖ b (N + m - i) ]

  -- coefficient m of a times b, modulo X^N + 1
  unfoldable pub nega : ℕ → (ℕ → A) → (ℕ → A) → ℕ → A
  nega N a b m = sum R N (λ i. a i ⊗ wrap N b m i)

  wrap_le : (N : ℕ) (b : ℕ → A) (m i : ℕ) → i ≤ m → wrap N b m i ≡ b (m - i)
  unfolding wrap
  wrap_le N b m i h = go (leb i m) (le→leb i m h)
    where
      go : (c : Bool) → T c → elim c as (λ x. A) [ true ↦ b (m - i) | false ↦ ⊖ b (N + m - i) ] ≡ b (m - i)
      go true h = refl
      go false h = absurd h

  wrap_gt : (N : ℕ) (b : ℕ → A) (m i : ℕ) → m < i → wrap N b m i ≡ ⊖ b (N + m - i)
  unfolding wrap
  wrap_gt N b m i h = go (leb i m) (λ p. let q = leb→le i m p in omega arith)
    where
      go : (c : Bool) → ¬ (T c) → elim c as (λ x. A) [ true ↦ b (m - i) | false ↦ ⊖ b (N + m - i) ] ≡ ⊖ b (N + m - i)
      go true h = absurd (h tt)
      go false h = refl

  -- X^i times b, at x with x^N = -1
  shifted : (i r : ℕ) (b : ℕ → A) (x : A) → pow R x (i + r) ≡ ⊖ 𝟙
      → poly R (i + r) (λ m. wrap (i + r) b m i) x ≡ pow R x i ⊗ poly R (r + i) b x
  shifted i r b x e =
      poly_split R i r (λ m. wrap (i + r) b m i) x
      ∙ (λ ι. (poly_ext R i _ (λ m. ⊖ b (r + m)) x lows ∙ poly-neg R i (λ m. b (r + m)) x) ι ⊕ pow R x i ⊗ poly_ext R r _ b x highs ι)
      ∙ i_1 (poly R i (λ m. b (r + m)) x) (pow R x i ⊗ poly R r b x)
      ∙ ap (λ w. w ⊗ poly R i (λ m. b (r + m)) x ⊕ pow R x i ⊗ poly R r b x) (sym e ∙ pow-add R x i r)
      ∙ i_2 (pow R x i) (pow R x r) (poly R r b x) (poly R i (λ m. b (r + m)) x)
      ∙ ap (λ w. pow R x i ⊗ w) (sym (poly_split R r i b x))
    where
      lows : (m : ℕ) → m < i → wrap (i + r) b m i ≡ ⊖ b (r + m)
      lows m h = wrap_gt (i + r) b m i h ∙ ap (λ n. ⊖ b n) (let g : i + r + m - i ≡ r + m = omega arith in g)

      highs : (m : ℕ) → m < r → wrap (i + r) b (i + m) i ≡ b m
      highs m h = wrap_le (i + r) b (i + m) i (omega arith) ∙ ap (λ n. b n) (add-sub_cancel_left i m)

      i_1 : (p q : A) → ⊖ p ⊕ q ≡ ⊖ 𝟙 ⊗ p ⊕ q
      i_1 p q = simp ring

      i_2 : (xi xr p q : A) → xi ⊗ xr ⊗ q ⊕ xi ⊗ p ≡ xi ⊗ (p ⊕ xr ⊗ q)
      i_2 xi xr p q = simp ring

  shifted_at : (N i : ℕ) → i < N → (b : ℕ → A) (x : A) → pow R x N ≡ ⊖ 𝟙 → poly R N (λ m. wrap N b m i) x ≡ pow R x i ⊗ poly R N b x
  shifted_at N i h b x =
      let e : i + (N - i) ≡ N = omega arith in
      let f : N - i + i ≡ N = omega arith in
      let s : pow R x (i + (N - i)) ≡ ⊖ 𝟙 → poly R (i + (N - i)) (λ m. wrap (i + (N - i)) b m i) x ≡ pow R x i ⊗ poly R N b x =
      λ q. shifted i (N - i) b x q ∙ ap (λ n. pow R x i ⊗ poly R n b x) f in
      subst (λ n. pow R x n ≡ ⊖ 𝟙 → poly R n (λ m. wrap n b m i) x ≡ pow R x i ⊗ poly R N b x) e s

  -- at x with x^N = -1 the value of the product modulo X^N + 1 is the product of the values
  pub nega_value : (N : ℕ) (a b : ℕ → A) (x : A) → pow R x N ≡ ⊖ 𝟙 → poly R N (nega N a b) x ≡ poly R N a x ⊗ poly R N b x
  unfolding poly nega
  nega_value N a b x e =
      sum_ext R N _ (λ m. sum R N (λ i. a i ⊗ (wrap N b m i ⊗ pow R x m))) (λ m l.
      sym (sum_scale_right R N (λ i. a i ⊗ wrap N b m i) (pow R x m))
      ∙ sum_ext R N _ (λ i. a i ⊗ (wrap N b m i ⊗ pow R x m)) (λ i h. R.mul_assoc (a i) (wrap N b m i) (pow R x m)))
      ∙ sum_swap R N N (λ m i. a i ⊗ (wrap N b m i ⊗ pow R x m))
      ∙ sum_ext R N _ (λ i. a i ⊗ pow R x i ⊗ poly R N b x) (λ i h.
      sum_scale R N (a i) (λ m. wrap N b m i ⊗ pow R x m) ∙ ap (λ w. a i ⊗ w) (shifted_at N i h b x e)
      ∙ sym (R.mul_assoc (a i) (pow R x i) (poly R N b x)))
      ∙ sum_scale_right R N (λ i. a i ⊗ pow R x i) (poly R N b x)

  -- a and b have N coefficients: what is past X^(N-1) in the plain product counts negative
  module _ (N : ℕ) (a b : ℕ → A) (a-ends : (i : ℕ) → N ≤ i → a i ≡ 𝟘) (b-ends : (i : ℕ) → N ≤ i → b i ≡ 𝟘) where
    nega_parts : (m r : ℕ) → suc m + r ≡ N
        → nega N a b m ≡ conv a b m ⊕ ⊖ sum R r (λ i. a (suc m + i) ⊗ b (N + m - (suc m + i)))
    unfolding nega conv
    nega_parts m r e =
        ap (λ n. sum R n (λ i. a i ⊗ wrap N b m i)) (sym e) ∙ sum_split R (suc m) r (λ i. a i ⊗ wrap N b m i)
        ∙ (λ ι. sum_ext R (suc m) (λ i. a i ⊗ wrap N b m i) (λ i. a i ⊗ b (m - i)) (λ i h. ap (λ w. a i ⊗ w) (wrap_le N b m i (omega arith))) ι
        ⊕ (sum_ext R r (λ i. a (suc m + i) ⊗ wrap N b m (suc m + i)) (λ i. ⊖ (a (suc m + i) ⊗ b (N + m - (suc m + i)))) (λ i h.
        ap (λ w. a (suc m + i) ⊗ w) (wrap_gt N b m (suc m + i) (omega arith)) ∙ mul-neg R (a (suc m + i)) (b (N + m - (suc m + i))))
        ∙ sum-neg R r (λ i. a (suc m + i) ⊗ b (N + m - (suc m + i)))) ι)

    -- coefficient N + m of the plain product: m + 1 terms where b has ended, r terms, m + 1 terms where a has ended
    high_parts : (m r : ℕ) → suc m + r ≡ N → conv a b (N + m) ≡ sum R r (λ i. a (suc m + i) ⊗ b (N + m - (suc m + i)))
    unfolding conv
    high_parts m r e =
        ap (λ n. sum R n f) (let g : suc (N + m) ≡ suc m + (r + suc m) = omega arith in g)
        ∙ sum_split R (suc m) (r + suc m) f
        ∙ (λ ι. sum_none R (suc m) f (λ i h. ap (λ w. a i ⊗ w) (b-ends (N + m - i) (omega arith)) ∙ mul-zero R (a i)) ι
        ⊕ sum_split R r (suc m) (λ i. f (suc m + i)) ι)
        ∙ zero-add R (sum R r (λ i. f (suc m + i)) ⊕ sum R (suc m) (λ i. f (suc m + (r + i))))
        ∙ ap (λ w. sum R r (λ i. f (suc m + i)) ⊕ w) (sum_none R (suc m) (λ i. f (suc m + (r + i))) (λ i h.
        ap (λ w. w ⊗ b (N + m - (suc m + (r + i)))) (a-ends (suc m + (r + i)) (omega arith)) ∙ zero-mul R (b (N + m - (suc m + (r + i))))))
        ∙ R.add-zero (sum R r (λ i. f (suc m + i)))
      where
        f : ℕ → A
        f i = a i ⊗ b (N + m - i)

    pub conv_low : (m : ℕ) → m < N → conv a b m ≡ conv a b (N + m) ⊕ nega N a b m
    conv_low m h =
        let e : suc m + (N - suc m) ≡ N = omega arith in
        i_1 (conv a b m) (conv a b (N + m)) ∙ ap (λ w. conv a b (N + m) ⊕ w)
        (ap (λ w. conv a b m ⊕ ⊖ w) (high_parts m (N - suc m) e) ∙ sym (nega_parts m (N - suc m) e))
      where
        i_1 : (p q : A) → p ≡ q ⊕ (p ⊕ ⊖ q)
        i_1 p q = ring_eq R (p ∷ q ∷ []) (v 0) (v 1 :+ (v 0 :+ :- v 1)) refl

    -- past both ends nothing is left
    pub conv_none : (m : ℕ) → N + N ≤ suc m → conv a b m ≡ 𝟘
    unfolding conv
    conv_none m h = sum_none R (suc m) (λ i. a i ⊗ b (m - i)) (λ i l. at i l (le_or_lt N i))
      where
        at : (i : ℕ) → i < suc m → (N ≤ i) ⊎ (i < N) → a i ⊗ b (m - i) ≡ 𝟘
        at i l (inl g) = ap (λ w. w ⊗ b (m - i)) (a-ends i g) ∙ zero-mul R (b (m - i))
        at i l (inr g) = ap (λ w. a i ⊗ w) (b-ends (m - i) (omega arith)) ∙ mul-zero R (a i)

  -- q times X^N + 1
  module _ (N : ℕ) (pos : 0 < N) (q e : ℕ → A) (e-low : e 0 ≡ 𝟙) (e-top : e N ≡ 𝟙) (e-else : (i : ℕ) → i ≢ 0 → i ≢ N → e i ≡ 𝟘) where
    at_self : (m : ℕ) → q m ⊗ e (m - m) ≡ q m
    at_self m = ap (λ w. q m ⊗ w) (ap e (let g : m - m ≡ 0 = omega arith in g) ∙ e-low) ∙ R.mul-one (q m)

    pub conv_modulus_low : (m : ℕ) → m < N → conv q e m ≡ q m
    unfolding conv
    conv_modulus_low m h =
        sum_single R (suc m) (λ i. q i ⊗ e (m - i)) m (omega arith) (λ i l d.
        ap (λ w. q i ⊗ w) (e-else (m - i) (omega arith) (omega arith)) ∙ mul-zero R (q i))
        ∙ at_self m

    pub conv_modulus_high : (m : ℕ) → conv q e (N + m) ≡ q m ⊕ q (N + m)
    unfolding conv sum
    conv_modulus_high m =
        λ ι. (sum_single R (N + m) (λ i. q i ⊗ e (N + m - i)) m (omega arith) (λ i l d.
        ap (λ w. q i ⊗ w) (e-else (N + m - i) (omega arith) (omega arith)) ∙ mul-zero R (q i))
        ∙ ap (λ w. q m ⊗ w) (ap e (let g : N + m - m ≡ N = omega arith in g) ∙ e-top) ∙ R.mul-one (q m)) ι
        ⊕ at_self (N + m) ι

  -- a polynomial q that X^N + 1 takes to nothing past X^N has nothing there
  pub descend : (N : ℕ) → 0 < N → (q : ℕ → A) → ((i : ℕ) → N ≤ i → q i ⊕ q (N + i) ≡ 𝟘)
      → (L : ℕ) → ((i : ℕ) → N + L ≤ i → q i ≡ 𝟘) → (i : ℕ) → N ≤ i → q i ≡ 𝟘
  descend N pos q h zero ends i l = ends i (omega arith)
  descend N pos q h (suc L) ends i l =
      descend N pos q h L (λ j g. sym (R.add-zero (q j)) ∙ ap (λ w. q j ⊕ w) (sym (ends (N + j) (omega arith))) ∙ h j (omega arith)) i l

  -- b (G a) = (b G) a
  pub assoc_form : (n m : ℕ) (b : ℕ → A) (G : ℕ → ℕ → A) (a : ℕ → A)
      → sum R n (λ r. b r ⊗ sum R m (λ s. G r s ⊗ a s)) ≡ sum R m (λ s. sum R n (λ r. b r ⊗ G r s) ⊗ a s)
  assoc_form n m b G a =
      sum_ext R n _ (λ r. sum R m (λ s. b r ⊗ G r s ⊗ a s)) (λ r h.
      sym (sum_scale R m (b r) (λ s. G r s ⊗ a s)) ∙ sum_ext R m _ _ (λ s g. sym (R.mul_assoc (b r) (G r s) (a s))))
      ∙ sum_swap R n m (λ r s. b r ⊗ G r s ⊗ a s)
      ∙ sum_ext R m _ _ (λ s h. sum_scale_right R n (λ r. b r ⊗ G r s) (a s))

  -- (b (G a + c) + e) - (b G + d) a = e + (b c - d a)
  pub noise : (n m : ℕ) (G : ℕ → ℕ → A) (a b c d : ℕ → A) (e : A)
      → (sum R n (λ r. b r ⊗ (sum R m (λ s. G r s ⊗ a s) ⊕ c r)) ⊕ e) ⊕ ⊖ sum R m (λ s. (sum R n (λ r. b r ⊗ G r s) ⊕ d s) ⊗ a s)
      ≡ e ⊕ (sum R n (λ r. b r ⊗ c r) ⊕ ⊖ sum R m (λ s. d s ⊗ a s))
  noise n m G a b c d e =
      (λ i. ((p ∙ ap (λ w. w ⊕ sum R n (λ r. b r ⊗ c r)) (assoc_form n m b G a)) i ⊕ e) ⊕ ⊖ q i)
      ∙ i_1 (sum R m (λ s. sum R n (λ r. b r ⊗ G r s) ⊗ a s)) (sum R n (λ r. b r ⊗ c r)) e (sum R m (λ s. d s ⊗ a s))
    where
      p : sum R n (λ r. b r ⊗ (sum R m (λ s. G r s ⊗ a s) ⊕ c r)) ≡ sum R n (λ r. b r ⊗ sum R m (λ s. G r s ⊗ a s)) ⊕ sum R n (λ r. b r ⊗ c r)
      p =
          sum_ext R n _ _ (λ r h. R.mul-add (b r) (sum R m (λ s. G r s ⊗ a s)) (c r))
          ∙ sum-add R n (λ r. b r ⊗ sum R m (λ s. G r s ⊗ a s)) (λ r. b r ⊗ c r)

      q : sum R m (λ s. (sum R n (λ r. b r ⊗ G r s) ⊕ d s) ⊗ a s) ≡ sum R m (λ s. sum R n (λ r. b r ⊗ G r s) ⊗ a s) ⊕ sum R m (λ s. d s ⊗ a s)
      q =
          sum_ext R m _ _ (λ s h. add-mul R (sum R n (λ r. b r ⊗ G r s)) (d s) (a s))
          ∙ sum-add R m (λ s. sum R n (λ r. b r ⊗ G r s) ⊗ a s) (λ s. d s ⊗ a s)

      i_1 : (x y u w : A) → (x ⊕ y ⊕ u) ⊕ ⊖ (x ⊕ w) ≡ u ⊕ (y ⊕ ⊖ w)
      i_1 x y u w = ring_eq R (x ∷ y ∷ u ∷ w ∷ []) ((v 0 :+ v 1 :+ v 2) :+ :- (v 0 :+ v 3)) (v 2 :+ (v 1 :+ :- v 3)) refl
