-- The six stages forward are the transform: each stage halves the blocks and keeps the values.
use mathlib.Core.Path.{◌≡◌, refl, sym, ◌∙◌, ap, subst}
use mathlib.Core.List.{List}
use Prim.Native.Nat.{ℕ, ◌+◌, ◌*◌, ◌-◌, ◌%◌, ◌/◌, ◌<◌}
use native.Mathlib.Nat.{mod-lt}
use native.Mathlib.Omega.{arith}
use native.Mathlib.Decide.{ℕ_discrete}
use lib.ListN.{get_or}
use Rattle.laws.specs.Rings.{pow, poly}
use Rattle.laws.proofs.Lists.{get_or-tab}
use Rattle.laws.proofs.Bounds.{tab_below}
use Rattle.laws.proofs.Sums.{pow-add, pow-one, poly_ext, poly-one}
use Rattle.laws.proofs.Residues.{mk_mod, mk_add, mk_mul, mk_sub}
use Rattle.laws.proofs.Halving.{fwd_left, fwd_right, neg_sq}
use Rattle.field.specs.Field.{P, Coefficients}
use Rattle.ring.specs.Transform.{zeta, transform}
use Rattle.ring.specs.Stages.{sum_of, difference_of, forward_canonical, stage_at, forward}
use Rattle.ring.proofs.Residue.{F, el, co, p_pos, same}
use Rattle.ring.proofs.Roots.{W, roots, heap_even}
use Rattle.ring.proofs.Transforms.{transform-canonical, transform-value}
use Rattle.ring.proofs.Blocks.{rule_low, rule_high, stage_below, block_fits, entry-fits}

pub forward-canonical : (m t : ℕ) (l : List ℕ) → Coefficients 64 (forward m t l)
unfolding forward
forward-canonical m t l = tab_below P 64 (stage_at sum_of difference_of zeta m t l) p_pos (λ k h. stage_below forward_canonical zeta m t l k)

-- a butterfly over F
el_sum : (z u w : ℕ) → el (sum_of z u w) ≡ F.add (el u) (F.mul (el w) (el z))
el_sum z u w =
    mk_mod P p_pos (u + z * w % P) ∙ mk_add P p_pos u (z * w % P)
    ∙ ap (λ y. F.add (el u) y) (mk_mod P p_pos (z * w) ∙ mk_mul P p_pos z w ∙ F.mul_comm (el z) (el w))

el_difference : (z u w : ℕ) → el (difference_of z u w) ≡ F.add (el u) (F.neg (F.mul (el w) (el z)))
el_difference z u w =
    mk_mod P p_pos (u + (P - z * w % P)) ∙ mk_add P p_pos u (P - z * w % P)
    ∙ ap (λ y. F.add (el u) y) (mk_sub P p_pos (z * w % P) (mod-lt (z * w) p_pos)
    ∙ ap (λ y. F.neg y) (mk_mod P p_pos (z * w) ∙ mk_mul P p_pos z w ∙ F.mul_comm (el z) (el w)))

-- the block of t numbers from s on has the value f x at each root x of X^t - w, where w is the number of node n
abbrev Block : (F.A → F.A) → List ℕ → ℕ → ℕ → ℕ → Type 0
Block f l n s t = (x : F.A) → pow F x t ≡ W n → poly F t (λ j. co l (s + j)) x ≡ f x

-- m blocks of t numbers
abbrev Blocks : (F.A → F.A) → List ℕ → ℕ → ℕ → Type 0
Blocks f l m t = (n : ℕ) → n < m → Block f l (m + n) (n * t) t

module _ (m t : ℕ) (size : m * (t + t) ≡ 64) (f : F.A → F.A) (l : List ℕ) (given : Blocks f l m (t + t)) where
  module _ (i : ℕ) (h : i < m) where
    node : m + i < 64
    node = entry-fits m t i size h

    -- x^t is z or -z, so x^(t + t) is z * z
    above : (y : F.A) → F.mul (pow F y t) (pow F y t) ≡ W (m + i) → poly F (t + t) (λ j. co l (i * (t + t) + j)) y ≡ f y
    above y e = given i h y (pow-add F y t t ∙ e)

    z_is : W (m + i + (m + i)) ≡ el (zeta (m + i))
    z_is = ap (λ n. el n) (heap_even (m + i) node)

    -- the two numbers of a butterfly, before it
    abbrev lower : ℕ → F.A
    lower j = co l (i * (t + t) + j)

    abbrev upper : ℕ → F.A
    upper j = co l (i * (t + t) + (t + j))

    entry : (x : ℕ) → x < 64 → co (forward m t l) x ≡ el (stage_at sum_of difference_of zeta m t l x)
    unfolding forward
    entry x q = ap (λ n. el n) (get_or-tab 64 (stage_at sum_of difference_of zeta m t l) 0 x q)

    at_upper : (j : ℕ) → i * (t + t) + j + t ≡ i * (t + t) + (t + j)
    at_upper j = omega arith

    low-at : (j : ℕ) → j < t → co (forward m t l) (i * (t + t) + j) ≡ F.add (lower j) (F.mul (upper j) (el (zeta (m + i))))
    low-at j q =
        entry (i * (t + t) + j) (omega (arith, block_fits m t i size h))
        ∙ ap (λ n. el n) (rule_low sum_of difference_of zeta m t l i j q)
        ∙ el_sum (zeta (m + i)) (get_or l (i * (t + t) + j) 0) (get_or l (i * (t + t) + j + t) 0)
        ∙ (λ k. F.add (lower j) (F.mul (co l (at_upper j k)) (el (zeta (m + i)))))

    high-at : (j : ℕ) → j < t → co (forward m t l) (i * (t + t) + j + t) ≡ F.add (lower j) (F.neg (F.mul (upper j) (el (zeta (m + i)))))
    high-at j q =
        entry (i * (t + t) + j + t) (omega (arith, block_fits m t i size h))
        ∙ ap (λ n. el n) (rule_high sum_of difference_of zeta m t l i j q)
        ∙ el_difference (zeta (m + i)) (get_or l (i * (t + t) + j) 0) (get_or l (i * (t + t) + j + t) 0)
        ∙ (λ k. F.add (lower j) (F.neg (F.mul (co l (at_upper j k)) (el (zeta (m + i))))))

    left : Block f (forward m t l) (m + m + (i + i)) ((i + i) * t) t
    left y r =
        let g : m + m + (i + i) ≡ m + i + (m + i) = omega arith in
        let e : pow F y t ≡ W (m + i + (m + i)) = r ∙ ap (λ n. W n) g in
        let q : (i + i) * t ≡ i * (t + t) = omega arith in
        ap (λ s. poly F t (λ j. co (forward m t l) (s + j)) y) q
        ∙ poly_ext F t (λ j. co (forward m t l) (i * (t + t) + j)) _ y low-at
        ∙ sym (fwd_left F t (λ j. co l (i * (t + t) + j)) y (el (zeta (m + i))) (e ∙ z_is))
        ∙ above y ((λ k. F.mul (e k) (e k)) ∙ roots.square (m + i) (omega arith) node)

    right : Block f (forward m t l) (m + m + (i + i + 1)) ((i + i + 1) * t) t
    right y r =
        let g : m + m + (i + i + 1) ≡ m + i + (m + i) + 1 = omega arith in
        let e : pow F y t ≡ F.neg (W (m + i + (m + i))) = r ∙ ap (λ n. W n) g ∙ roots.odd (m + i) (omega arith) node in
        poly_ext F t (λ j. co (forward m t l) ((i + i + 1) * t + j)) _ y (λ j q.
        let s : (i + i + 1) * t + j ≡ i * (t + t) + j + t = omega arith in ap (λ n. co (forward m t l) n) s ∙ high-at j q)
        ∙ sym (fwd_right F t (λ j. co l (i * (t + t) + j)) y (el (zeta (m + i))) (e ∙ ap (λ w. F.neg w) z_is))
        ∙ above y ((λ k. F.mul (e k) (e k)) ∙ neg_sq F (W (m + i + (m + i))) ∙ roots.square (m + i) (omega arith) node)

  halved : Blocks f (forward m t l) (m + m) t
  halved k h = go (ℕ_discrete (k % 2) 0)
    where
      go : Dec (k % 2 ≡ 0) → Block f (forward m t l) (m + m + k) (k * t) t
      go (yes e) =
          let q : k / 2 + k / 2 ≡ k = omega arith in
          subst (λ i. Block f (forward m t l) (m + m + i) (i * t) t) q (left (k / 2) (omega arith))
      go (no e) =
          let q : k / 2 + k / 2 + 1 ≡ k = omega arith in
          subst (λ i. Block f (forward m t l) (m + m + i) (i * t) t) q (right (k / 2) (omega arith))

-- one block of 64, and 64 blocks of one
module _ (l : List ℕ) where
  abbrev values : F.A → F.A
  values x = poly F 64 (co l) x

  first : Blocks values l 1 64
  first n h x e =
      let s : n * 64 ≡ 0 = omega arith in
      poly_ext F 64 (λ j. co l (n * 64 + j)) (co l) x (λ j q. let g : n * 64 + j ≡ j = omega arith in ap (λ i. co l i) g)

  last : (new : List ℕ) → Coefficients 64 l → Coefficients 64 new → Blocks values new 64 1 → new ≡ transform l
  last new cl cn b = same 64 new (transform l) cn (transform-canonical l) (λ r h.
      let s : r * 1 + 0 ≡ r = omega arith in
      ap (λ i. co new i) (sym s) ∙ sym (poly-one F (λ j. co new (r * 1 + j)) (W (64 + r))) ∙ b r h (W (64 + r)) (pow-one F (W (64 + r)))
      ∙ sym (transform-value l cl r h))

-- six stages, one after the other
pub forward-transform : {a b c d e f g : List ℕ} → Coefficients 64 a → b ≡ forward 1 32 a → c ≡ forward 2 16 b → d ≡ forward 4 8 c
    → e ≡ forward 8 4 d → f ≡ forward 16 2 e → g ≡ forward 32 1 f → g ≡ transform a
forward-transform {a} h eb ec ed ee ef eg =
    eg ∙ ap (forward 32 1) (ef ∙ ap (forward 16 2) (ee ∙ ap (forward 8 4) (ed ∙ ap (forward 4 8) (ec ∙ ap (forward 2 16) eb))))
    ∙ last a _ h (forward-canonical 32 1 _)
    (halved 32 1 refl v _ (halved 16 2 refl v _ (halved 8 4 refl v _ (halved 4 8 refl v _ (halved 2 16 refl v _ (halved 1 32 refl v a (first a)))))))
  where
    v : F.A → F.A
    v = values a
