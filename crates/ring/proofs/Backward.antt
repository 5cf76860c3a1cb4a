-- The six stages backward and the factor 1/64 are the inverse transform: each stage joins two blocks and doubles the values at the leaves.
--
use mathlib.Core.Path.{◌≡◌, refl, sym, ◌∙◌, ap, subst}
use mathlib.Core.List.{List}
use Prim.Native.Nat.{ℕ, ◌+◌, ◌*◌, ◌-◌, ◌%◌, ◌≤◌, ◌<◌}
use native.Mathlib.Nat.{mul-le-mul_right}
use native.Mathlib.Omega.{arith}
use native.Mathlib.Decide.{dec_lt}
use lib.ListN.{get_or}
use Rattle.laws.specs.Lists.{tab}
use Rattle.laws.specs.Rings.{pow, poly}
use Rattle.laws.proofs.Lists.{get_or-tab}
use Rattle.laws.proofs.Bounds.{tab_below}
use Rattle.laws.proofs.Rings.{add-mul}
use Rattle.laws.proofs.Sums.{poly_ext, poly-one, poly_scale}
use Rattle.laws.proofs.Residues.{mk_mod, mk_add, mk_mul, mk_sub}
use Rattle.laws.proofs.Halving.{dbl, leaf_pow, bwd_left, bwd_right}
use Rattle.field.specs.Field.{P, Coefficients}
use Rattle.ring.specs.Transform.{zeta_inv, inv64, untransform}
use Rattle.ring.specs.Stages.{sum_back, difference_back, backward_canonical, stage_at, backward, unscaled, scaled}
use Rattle.ring.proofs.Residue.{F, el, co, co_tab, p_pos, remainders}
use Rattle.ring.proofs.Roots.{W, U, roots, sixty_fourth}
use Rattle.ring.proofs.Transforms.{untransform_only}
use Rattle.ring.proofs.Blocks.{rule_low, rule_high, stage_below, block_fits, entry-fits}

pub backward-canonical : (m t : ℕ) (l : List ℕ) → Coefficients 64 (backward m t l)
unfolding backward
backward-canonical m t l =
    tab_below P 64 (stage_at sum_back difference_back zeta_inv m t l) p_pos (λ k h. stage_below backward_canonical zeta_inv m t l k)

-- a butterfly over F
el_sum : (z u w : ℕ) → el (sum_back z u w) ≡ F.add (el u) (el w)
el_sum z u w = mk_mod P p_pos (u + w) ∙ mk_add P p_pos u w

el_difference : (z u w : ℕ) → w < P → el (difference_back z u w) ≡ F.mul (F.add (el u) (F.neg (el w))) (el z)
el_difference z u w h =
    mk_mod P p_pos (z * ((u + (P - w)) % P)) ∙ mk_mul P p_pos z ((u + (P - w)) % P) ∙ F.mul_comm (el z) (el ((u + (P - w)) % P))
    ∙ ap (λ x. F.mul x (el z)) (mk_mod P p_pos (u + (P - w)) ∙ mk_add P p_pos u (P - w) ∙ ap (λ y. F.add (el u) y) (mk_sub P p_pos w h))

-- block n of m blocks of t numbers has t times the wanted value vs at each of its t leaves
abbrev Leaves : List ℕ → List ℕ → ℕ → ℕ → ℕ → Type 0
Leaves vs l m n t = (q : ℕ) → q < t → poly F t (λ j. co l (n * t + j)) (W (t * (m + n) + q)) ≡ F.mul (el t) (co vs (n * t + q))

abbrev AllLeaves : List ℕ → List ℕ → ℕ → ℕ → Type 0
AllLeaves vs l m t = (n : ℕ) → n < m → Leaves vs l m n t

double : (t : ℕ) (x : F.A) → F.add (F.mul (el t) x) (F.mul (el t) x) ≡ F.mul (el (t + t)) x
double t x = sym (add-mul F (el t) (el t) x) ∙ ap (λ y. F.mul y x) (sym (mk_add P p_pos t t))

-- the leaf q below node n, t leaves wide, is a root of X^t less the node's number
leaf_root : (t d n q : ℕ) → dbl d ≡ t → 0 < n → t * (n + 1) ≤ 128 → q < t → pow F (W (t * n + q)) t ≡ W n
leaf_root t d n q e = rw (sym e) (leaf_pow F 64 W U roots d n q)

module _ (m t d : ℕ) (two : dbl d ≡ t) (size : m * (t + t) ≡ 64) (vs l : List ℕ)
    (canonical : Coefficients 64 l) (given : AllLeaves vs l (m + m) t) where
  -- coefficient j of block i after the stage
  abbrev new : ℕ → ℕ → F.A
  new i j = co (backward m t l) (i * (t + t) + j)

  module _ (i : ℕ) (h : i < m) where
    node : m + i < 64
    node = entry-fits m t i size h

    -- the coefficients of the two blocks that are joined, the number of their node's left child, and the inverse of its zeta
    abbrev lower : ℕ → F.A
    lower j = co l ((i + i) * t + j)

    abbrev upper : ℕ → F.A
    upper j = co l ((i + i + 1) * t + j)

    abbrev w : F.A
    w = W (m + i + (m + i))

    abbrev u : F.A
    u = U (m + i)

    -- what stands at a place, and where the code finds it
    entry : (x : ℕ) → x < 64 → co (backward m t l) x ≡ el (stage_at sum_back difference_back zeta_inv m t l x)
    unfolding backward
    entry x q = ap (λ n. el n) (get_or-tab 64 (stage_at sum_back difference_back zeta_inv m t l) 0 x q)

    at_lower : (j : ℕ) → i * (t + t) + j ≡ (i + i) * t + j
    at_lower j = omega arith

    at_upper : (j : ℕ) → i * (t + t) + j + t ≡ (i + i + 1) * t + j
    at_upper j = omega arith

    low : (j : ℕ) → j < t → new i j ≡ F.add (lower j) (upper j)
    low j q =
        entry (i * (t + t) + j) (omega (arith, block_fits m t i size h))
        ∙ ap (λ n. el n) (rule_low sum_back difference_back zeta_inv m t l i j q)
        ∙ el_sum (zeta_inv (m + i)) (get_or l (i * (t + t) + j) 0) (get_or l (i * (t + t) + j + t) 0)
        ∙ (λ k. F.add (co l (at_lower j k)) (co l (at_upper j k)))

    high : (j : ℕ) → j < t → new i (t + j) ≡ F.mul (F.add (lower j) (F.neg (upper j))) u
    high j q =
        let e : i * (t + t) + (t + j) ≡ i * (t + t) + j + t = omega arith in
        ap (λ n. co (backward m t l) n) e
        ∙ entry (i * (t + t) + j + t) (omega (arith, block_fits m t i size h))
        ∙ ap (λ n. el n) (rule_high sum_back difference_back zeta_inv m t l i j q)
        ∙ el_difference (zeta_inv (m + i)) (get_or l (i * (t + t) + j) 0) (get_or l (i * (t + t) + j + t) 0) (canonical.each (i * (t + t) + j + t))
        ∙ (λ k. F.mul (F.add (co l (at_lower j k)) (F.neg (co l (at_upper j k)))) u)

    abbrev x : ℕ → F.A
    x q = W ((t + t) * (m + i) + q)

    -- block k of those that are joined, whose leaf q is the leaf r of the block that they become
    module _ (k q r : ℕ) (b : q < t) (hk : k < m + m) (leaf : t * (m + m + k) + q ≡ (t + t) * (m + i) + r) (place : k * t + q ≡ i * (t + t) + r) where
      root : (n : ℕ) → m + m + k ≡ n → pow F (x r) t ≡ W n
      root n g =
          let s : n + 1 ≤ m + m + (m + m) = omega arith in
          rw (sym leaf, g) (leaf_root t d n q two (omega arith) (omega (arith, mul-le-mul_right t s)) b)

      doubled : (p : F.A) → p ≡ F.add (poly F t (λ j. co l (k * t + j)) (x r)) (poly F t (λ j. co l (k * t + j)) (x r))
          → p ≡ F.mul (el (t + t)) (co vs (i * (t + t) + r))
      doubled p e =
          let value : poly F t (λ j. co l (k * t + j)) (x r) ≡ F.mul (el t) (co vs (k * t + q)) = rw (sym leaf) (given k hk q b) in
          e ∙ (λ s. F.add (value s) (value s)) ∙ double t (co vs (k * t + q)) ∙ ap (λ n. F.mul (el (t + t)) (co vs n)) place

    -- the leaves of the block's left half, and of its right half
    abbrev Doubled : ℕ → Type 0
    Doubled r = poly F (t + t) (new i) (x r) ≡ F.mul (el (t + t)) (co vs (i * (t + t) + r))

    left : (q : ℕ) → q < t → Doubled q
    left q b =
        doubled (i + i) q q b (omega arith) (omega arith) (omega arith) _
        (bwd_left F t lower upper (new i) (x q) w u (roots.inverse (m + i) (omega arith) node) low high
        (root (i + i) q q b (omega arith) (omega arith) (omega arith) (m + i + (m + i)) (omega arith)))

    right : (q : ℕ) → q < t → Doubled (t + q)
    right q b =
        doubled (i + i + 1) q (t + q) b (omega arith) (omega arith) (omega arith) _
        (bwd_right F t lower upper (new i) (x (t + q)) w u (roots.inverse (m + i) (omega arith) node) low high
        (root (i + i + 1) q (t + q) b (omega arith) (omega arith) (omega arith) (m + i + (m + i) + 1) (omega arith)
        ∙ roots.odd (m + i) (omega arith) node))

  joined : AllLeaves vs (backward m t l) m (t + t)
  joined i h q b = go (dec_lt q t)
    where
      go : Dec (q < t) → Doubled i h q
      go (yes c) = left i h q c
      go (no c) = let e : t + (q - t) ≡ q = omega arith in subst (Doubled i h) e (right i h (q - t) (omega arith))

-- 64 blocks of one number
first : (vs : List ℕ) → AllLeaves vs vs 64 1
first vs n h q b =
    let e : n * 1 + 0 ≡ n * 1 + q = omega arith in
    poly-one F (λ j. co vs (n * 1 + j)) (W (1 * (64 + n) + q)) ∙ ap (λ i. co vs i) e
    ∙ sym (F.mul_comm (el 1) (co vs (n * 1 + q)) ∙ F.mul-one (co vs (n * 1 + q)))

-- one block of 64, times 1/64
last : (vs l : List ℕ) → Coefficients 64 vs → AllLeaves vs l 1 64 → scaled inv64 l ≡ untransform vs
unfolding scaled
last vs l cv b = untransform_only (tab 64 (λ k. inv64 * get_or l k 0 % P)) vs (remainders 64 (λ k. inv64 * get_or l k 0)) cv (λ r h.
    poly_ext F 64 (co (tab 64 (λ k. inv64 * get_or l k 0 % P))) (λ j. F.mul (co l j) (el inv64)) (W (64 + r)) (λ j q.
    co_tab 64 (λ k. inv64 * get_or l k 0) j q ∙ mk_mul P p_pos inv64 (get_or l j 0) ∙ F.mul_comm (el inv64) (co l j))
    ∙ poly_scale F 64 (el inv64) (co l) (W (64 + r))
    ∙ ap (λ w. F.mul (el inv64) w) (whole r h)
    ∙ sym (F.mul_assoc (el inv64) (el 64) (co vs r)) ∙ ap (λ w. F.mul w (co vs r)) sixty_fourth
    ∙ F.mul_comm F.𝟙 (co vs r) ∙ F.mul-one (co vs r))
  where
    whole : (r : ℕ) → r < 64 → poly F 64 (co l) (W (64 + r)) ≡ F.mul (el 64) (co vs r)
    whole r h =
        let e : 64 * (1 + 0) + r ≡ 64 + r = omega arith in
        let g : 0 * 64 + r ≡ r = omega arith in
        poly_ext F 64 (co l) (λ j. co l (0 * 64 + j)) (W (64 + r)) (λ j q. let s : j ≡ 0 * 64 + j = omega arith in ap (λ n. co l n) s)
        ∙ ap (λ n. poly F 64 (λ j. co l (0 * 64 + j)) (W n)) (sym e) ∙ b 0 (omega arith) r h ∙ ap (λ n. F.mul (el 64) (co vs n)) g

-- six stages, one after the other
pub unscaled_is : (a : List ℕ) {b c d e f g : List ℕ} → b ≡ backward 32 1 a → c ≡ backward 16 2 b → d ≡ backward 8 4 c → e ≡ backward 4 8 d
    → f ≡ backward 2 16 e → g ≡ backward 1 32 f → g ≡ unscaled a
unfolding unscaled
unscaled_is a eb ec ed ee ef eg =
    eg ∙ ap (backward 1 32) (ef ∙ ap (backward 2 16) (ee ∙ ap (backward 4 8) (ed ∙ ap (backward 8 4) (ec ∙ ap (backward 16 2) eb))))

-- and the factor
pub backward-untransform : (vs : List ℕ) → Coefficients 64 vs → scaled inv64 (unscaled vs) ≡ untransform vs
unfolding unscaled dbl
backward-untransform vs c =
    last vs _ c (joined 1 32 5 refl refl vs _ (backward-canonical 2 16 _)
    (joined 2 16 4 refl refl vs _ (backward-canonical 4 8 _)
    (joined 4 8 3 refl refl vs _ (backward-canonical 8 4 _)
    (joined 8 4 2 refl refl vs _ (backward-canonical 16 2 _)
    (joined 16 2 1 refl refl vs _ (backward-canonical 32 1 _)
    (joined 32 1 0 refl refl vs vs c (first vs)))))))

-- all of it, step by step
pub untransformed : {vs l new : List ℕ} {c : ℕ} → Coefficients 64 vs → l ≡ unscaled vs → c ≡ inv64 → new ≡ scaled c l → new ≡ untransform vs
untransformed {vs} h el ec e = e ∙ (λ i. scaled (ec i) (el i)) ∙ backward-untransform vs h
