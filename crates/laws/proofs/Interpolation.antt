-- There is a polynomial with 2^d coefficients that has given values at the 2^d leaves below a node. Over any commutative ring with a half.
--
use mathlib.Core.Path.{◌≡◌, refl, ◌∙◌, ap, subst}
use mathlib.Core.Bool.{Bool, true, false}
use Prim.Native.Nat.{ℕ, zero, suc, ◌+◌, ◌*◌, ◌-◌, ◌≤◌, ◌<◌}
use native.Mathlib.Nat.{add-sub_cancel_left}
use native.Mathlib.Decide.{dec_lt}
use native.Mathlib.Omega.{arith}
use lib.Dec.{ltb, T, lt→ltb, ltb→lt}
use Rattle.laws.specs.Rings.{CRing, poly}
use Rattle.laws.proofs.Rings.{ring}
use Rattle.laws.proofs.Sums.{poly-one, poly_ext, poly_scale}
use Rattle.laws.proofs.Halving.{dbl, Roots, leaf_pow, inner, bwd_left, bwd_right}

module _ (R : CRing) where
  open R use {A, add as ◌⊕◌, mul as ◌⊗◌, neg as ⊖◌, 𝟘, 𝟙}

  infixl 60 ◌⊕◌
  infixl 70 ◌⊗◌
  infix 80 ⊖◌
  module _ (N : ℕ) (W U : ℕ → A) (roots : Roots R N W U) (half : A) (two_halves : half ⊕ half ≡ 𝟙) where
    -- the block of t + t coefficients that is put together of two blocks of t
    pub join : ℕ → (ℕ → A) → (ℕ → A) → A → ℕ → A
    join t c d y j = elim (ltb j t) [ true ↦ half ⊗ c j ⊕ half ⊗ d j | false ↦ (half ⊗ c (j - t) ⊕ ⊖ (half ⊗ d (j - t))) ⊗ y ]

    join_low : (t : ℕ) (c d : ℕ → A) (y : A) (j : ℕ) → j < t → join t c d y j ≡ half ⊗ c j ⊕ half ⊗ d j
    unfolding join
    join_low t c d y j h = go (ltb j t) (lt→ltb j t h)
      where
        go : (b : Bool) → T b → elim b as (λ x. A) [ true ↦ half ⊗ c j ⊕ half ⊗ d j | false ↦ (half ⊗ c (j - t) ⊕ ⊖ (half ⊗ d (j - t))) ⊗ y ]
            ≡ half ⊗ c j ⊕ half ⊗ d j
        go true h = refl
        go false h = absurd h

    join_high : (t : ℕ) (c d : ℕ → A) (y : A) (j : ℕ) → join t c d y (t + j) ≡ (half ⊗ c j ⊕ ⊖ (half ⊗ d j)) ⊗ y
    unfolding join
    join_high t c d y j =
        go (ltb (t + j) t) (λ p. let h = ltb→lt (t + j) t p in omega arith)
        ∙ ap (λ m. (half ⊗ c m ⊕ ⊖ (half ⊗ d m)) ⊗ y) (add-sub_cancel_left t j)
      where
        go : (b : Bool) → ¬ (T b) → elim b as (λ x. A) [
          | true ↦ half ⊗ c (t + j) ⊕ half ⊗ d (t + j)
          | false ↦ (half ⊗ c (t + j - t) ⊕ ⊖ (half ⊗ d (t + j - t))) ⊗ y
        ]
            ≡ (half ⊗ c (t + j - t) ⊕ ⊖ (half ⊗ d (t + j - t))) ⊗ y
        go true h = absurd (h tt)
        go false h = refl

    pub interp : ℕ → ℕ → (ℕ → A) → ℕ → A
    interp zero n f = λ j. f 0
    interp (suc d) n f = join (dbl d) (interp d (n + n) f) (interp d (n + n + 1) (λ r. f (dbl d + r))) (U n)

    double_half : (t : ℕ) (c : ℕ → A) (x : A) → poly R t (λ j. half ⊗ c j) x ⊕ poly R t (λ j. half ⊗ c j) x ≡ poly R t c x
    double_half t c x =
        (λ i. e i ⊕ e i) ∙ i_1 half (poly R t c x) ∙ ap (λ w. w ⊗ poly R t c x) two_halves ∙ i_2 (poly R t c x)
      where
        e : poly R t (λ j. half ⊗ c j) x ≡ half ⊗ poly R t c x
        e = poly_ext R t (λ j. half ⊗ c j) (λ j. c j ⊗ half) x (λ j l. R.mul_comm half (c j)) ∙ poly_scale R t half c x

        i_1 : (h a : A) → h ⊗ a ⊕ h ⊗ a ≡ (h ⊕ h) ⊗ a
        i_1 h a = simp ring

        i_2 : (a : A) → 𝟙 ⊗ a ≡ a
        i_2 a = simp ring

    abbrev Interp : ℕ → Type 0
    Interp d = (n : ℕ) → 0 < n → dbl d * (n + 1) ≤ N + N → (f : ℕ → A) (r : ℕ) → r < dbl d
        → poly R (dbl d) (interp d n f) (W (dbl d * n + r)) ≡ f r

    interp_step : (d : ℕ) → Interp d → (n : ℕ) → 0 < n → dbl (suc d) * (n + 1) ≤ N + N → (f : ℕ → A) (r : ℕ) → r < dbl (suc d) → Dec (r < dbl d)
        → poly R (dbl (suc d)) (interp (suc d) n f) (W (dbl (suc d) * n + r)) ≡ f r
    unfolding dbl interp
    interp_step d ih n h l f r b (yes q) =
        let c : ℕ → A = interp d (n + n) f in
        let e : ℕ → A = interp d (n + n + 1) (λ i. f (dbl d + i)) in
        let p : dbl d * (n + n) + r ≡ (dbl d + dbl d) * n + r = omega arith in
        subst (λ m. poly R (dbl d + dbl d) (join (dbl d) c e (U n)) (W m) ≡ f r) p
        (bwd_left R (dbl d) (λ j. half ⊗ c j) (λ j. half ⊗ e j) (join (dbl d) c e (U n)) (W (dbl d * (n + n) + r)) (W (n + n)) (U n)
        (roots.inverse n h (inner R N W U roots d n l)) (λ j s. join_low (dbl d) c e (U n) j s) (λ j s. join_high (dbl d) c e (U n) j)
        (leaf_pow R N W U roots d (n + n) r (omega arith) (omega arith) q)
        ∙ double_half (dbl d) c (W (dbl d * (n + n) + r)) ∙ ih (n + n) (omega arith) (omega arith) f r q)
    interp_step d ih n h l f r b (no q) =
        let c : ℕ → A = interp d (n + n) f in
        let e : ℕ → A = interp d (n + n + 1) (λ i. f (dbl d + i)) in
        let s : ℕ = r - dbl d in
        let p : dbl d * (n + n + 1) + (r - dbl d) ≡ (dbl d + dbl d) * n + r = omega arith in
        let o : r - dbl d < dbl d = omega arith in
        let g : dbl d + (r - dbl d) ≡ r = omega arith in
        subst (λ m. poly R (dbl d + dbl d) (join (dbl d) c e (U n)) (W m) ≡ f r) p
        (bwd_right R (dbl d) (λ j. half ⊗ c j) (λ j. half ⊗ e j) (join (dbl d) c e (U n)) (W (dbl d * (n + n + 1) + s)) (W (n + n)) (U n)
        (roots.inverse n h (inner R N W U roots d n l)) (λ j z. join_low (dbl d) c e (U n) j z) (λ j z. join_high (dbl d) c e (U n) j)
        (leaf_pow R N W U roots d (n + n + 1) s (omega arith) (omega arith) o ∙ roots.odd n h (inner R N W U roots d n l))
        ∙ double_half (dbl d) e (W (dbl d * (n + n + 1) + s)) ∙ ih (n + n + 1) (omega arith) (omega arith) (λ i. f (dbl d + i)) s o ∙ ap (λ m. f m) g)

    pub interp_value : (d n : ℕ) → 0 < n → dbl d * (n + 1) ≤ N + N → (f : ℕ → A) (r : ℕ) → r < dbl d
        → poly R (dbl d) (interp d n f) (W (dbl d * n + r)) ≡ f r
    unfolding dbl interp
    interp_value zero n h l f r b =
        let e : 0 ≡ r = omega arith in
        poly-one R (λ j. f 0) (W (1 * n + r)) ∙ ap (λ m. f m) e
    interp_value (suc d) n h l f r b = interp_step d (interp_value d) n h l f r b (dec_lt r (dbl d))
