-- The transform and its inverse undo each other on 64 canonical numbers.
use mathlib.Core.Path.{◌≡◌, sym, ◌∙◌, ap}
use mathlib.Core.List.{List}
use Prim.Native.Nat.{ℕ, ◌+◌, ◌*◌, ◌-◌, ◌^◌, ◌%◌, ◌<◌}
use native.Mathlib.Omega.{arith}
use lib.ListN.{get_or}
use Rattle.laws.specs.Lists.{tab}
use Rattle.laws.specs.Rings.{pow, sum, poly}
use Rattle.laws.specs.Sums.{total}
use Rattle.laws.proofs.Lists.{get_or-tab}
use Rattle.laws.proofs.Bounds.{tab_below}
use Rattle.laws.proofs.Rings.{mul-zero, mul_left_comm}
use Rattle.laws.proofs.Residues.{mk_mod, mk_mul, mk_val, mk_total, mk_pow}
use Rattle.laws.proofs.Sums.{sum_ext, sum_scale, sum_scale_right, sum_swap, sum_single, pow-add, poly_ext}
use Rattle.laws.proofs.Halving.{dbl}
use Rattle.laws.proofs.Interpolation.{interp, interp_value}
use Rattle.field.specs.Field.{P, Coefficients}
use Rattle.ring.specs.Transform.{psi, brv, value, point, transform, inv64, untransform}
use Rattle.ring.proofs.Residue.{F, el, co, p_pos, same, remainders, value_below, value_is}
use Rattle.ring.proofs.Roots.{W, U, roots, heap_leaf, half, two_halves, sixty_fourth, powers, powers_zero, powers_128}

-- output k is the polynomial's value at psi^(2·brv(k)+1)
pub transform-at : (cs : List ℕ) (k : ℕ) → k < 64 → get_or (transform cs) k 0 ≡ value (psi ^ (2 * brv k + 1) % P) cs
unfolding transform point
transform-at cs k h = get_or-tab 64 (λ m. value (point m) cs) 0 k h

pub transform-canonical : (cs : List ℕ) → Coefficients 64 (transform cs)
unfolding transform
transform-canonical cs = tab_below P 64 (λ n. value (point n) cs) p_pos (λ i l. value_below (point i) cs)

pub untransform-canonical : (vs : List ℕ) → Coefficients 64 (untransform vs)
unfolding untransform
untransform-canonical vs = remainders 64 (λ j. inv64 * total 64 (λ n. get_or vs n 0 * (point n ^ (128 - j) % P)))

-- the same over F, at the leaf of the tree
pub transform-value : (cs : List ℕ) → Coefficients 64 cs → (n : ℕ) → n < 64 → co (transform cs) n ≡ poly F 64 (co cs) (W (64 + n))
unfolding transform
transform-value cs c n h =
    ap (λ m. el m) (get_or-tab 64 (λ m. value (point m) cs) 0 n h) ∙ value_is (point n) cs
    ∙ (λ i. poly F (c.size i) (co cs) (el (sym (heap_leaf n h) i)))

untransform_is : (vs : List ℕ) (j : ℕ) → j < 64
    → co (untransform vs) j ≡ F.mul (el inv64) (sum F 64 (λ n. F.mul (co vs n) (pow F (el (point n)) (128 - j))))
unfolding untransform
untransform_is vs j h =
    ap (λ m. el m) (get_or-tab 64 (λ m. inv64 * total 64 (λ n. get_or vs n 0 * (point n ^ (128 - m) % P)) % P) 0 j h)
    ∙ mk_mod P p_pos (inv64 * total 64 (λ n. get_or vs n 0 * (point n ^ (128 - j) % P)))
    ∙ mk_mul P p_pos inv64 (total 64 (λ n. get_or vs n 0 * (point n ^ (128 - j) % P)))
    ∙ ap (λ w. F.mul (el inv64) w) (mk_total P p_pos 64 (λ n. get_or vs n 0 * (point n ^ (128 - j) % P))
    ∙ sum_ext F 64 _ (λ n. F.mul (co vs n) (pow F (el (point n)) (128 - j))) (λ n l.
    mk_mul P p_pos (get_or vs n 0) (point n ^ (128 - j) % P)
    ∙ ap (λ w. F.mul (co vs n) w) (mk_mod P p_pos (point n ^ (128 - j)) ∙ mk_pow P p_pos (point n) (128 - j))))

-- the sum over the places of (the value of c) times (place)^(128 - j) is 64 times c j
dual : (c : ℕ → F.A) (j : ℕ) → j < 64
    → sum F 64 (λ n. F.mul (poly F 64 c (el (point n))) (pow F (el (point n)) (128 - j))) ≡ F.mul (c j) (el 64)
unfolding poly powers
dual c j h =
    sum_ext F 64 _ (λ n. sum F 64 (λ i. F.mul (c i) (pow F (el (point n)) (i + (128 - j))))) (λ n l.
    sym (sum_scale_right F 64 (λ i. F.mul (c i) (pow F (el (point n)) i)) (pow F (el (point n)) (128 - j)))
    ∙ sum_ext F 64 _ (λ i. F.mul (c i) (pow F (el (point n)) (i + (128 - j)))) (λ i q.
    F.mul_assoc (c i) (pow F (el (point n)) i) (pow F (el (point n)) (128 - j))
    ∙ ap (λ w. F.mul (c i) w) (sym (pow-add F (el (point n)) i (128 - j)))))
    ∙ sum_swap F 64 64 (λ n i. F.mul (c i) (pow F (el (point n)) (i + (128 - j))))
    ∙ sum_ext F 64 _ (λ i. F.mul (c i) (powers (i + (128 - j)))) (λ i q. sum_scale F 64 (c i) (λ n. pow F (el (point n)) (i + (128 - j))))
    ∙ sum_single F 64 (λ i. F.mul (c i) (powers (i + (128 - j)))) j h (λ i q r.
    let e : i + (128 - j) ≡ 65 + (i + 63 - j) = omega arith in
    ap (λ m. F.mul (c i) (powers m)) e ∙ ap (λ w. F.mul (c i) w) (powers_zero (i + 63 - j) (omega arith) (omega arith)) ∙ mul-zero F (c i))
    ∙ (let e : j + (128 - j) ≡ 128 = omega arith in ap (λ m. F.mul (c j) (powers m)) e ∙ ap (λ w. F.mul (c j) w) powers_128)

pub untransform-transform : (cs : List ℕ) → Coefficients 64 cs → untransform (transform cs) ≡ cs
untransform-transform cs c =
    same 64 (untransform (transform cs)) cs (untransform-canonical (transform cs)) c (λ j h.
    untransform_is (transform cs) j h
    ∙ ap (λ w. F.mul (el inv64) w) (
    sum_ext F 64 _ (λ n. F.mul (poly F 64 (co cs) (el (point n))) (pow F (el (point n)) (128 - j))) (λ n l.
    ap (λ w. F.mul w (pow F (el (point n)) (128 - j))) (transform-value cs c n l ∙ ap (λ m. poly F 64 (co cs) (el m)) (heap_leaf n l)))
    ∙ dual (co cs) j h)
    ∙ mul_left_comm F (el inv64) (co cs j) (el 64) ∙ ap (λ w. F.mul (co cs j) w) sixty_fourth ∙ F.mul-one (co cs j))

pub transform_inj : (a b : List ℕ) → Coefficients 64 a → Coefficients 64 b → transform a ≡ transform b → a ≡ b
transform_inj a b ca cb e = sym (untransform-transform a ca) ∙ ap untransform e ∙ untransform-transform b cb

-- the list whose values are vs, and nothing else, is untransform vs
pub untransform_only : (cs vs : List ℕ) → Coefficients 64 cs → Coefficients 64 vs
    → ((r : ℕ) → r < 64 → poly F 64 (co cs) (W (64 + r)) ≡ co vs r) → cs ≡ untransform vs
untransform_only cs vs c cv h =
    sym (untransform-transform cs c)
    ∙ ap (λ l. untransform l) (same 64 (transform cs) vs (transform-canonical cs) cv (λ r l. transform-value cs c r l ∙ h r l))

found : (f : ℕ → F.A) (r : ℕ) → r < 64 → poly F 64 (interp F 64 W U roots half two_halves 6 1 f) (W (64 + r)) ≡ f r
unfolding dbl
found f r h = interp_value F 64 W U roots half two_halves 6 1 (omega arith) (omega arith) f r h

pub transform-untransform : (vs : List ℕ) → Coefficients 64 vs → transform (untransform vs) ≡ vs
transform-untransform vs cv =
    ap (λ l. transform l) (sym (untransform_only cs vs canonical cv values))
    ∙ same 64 (transform cs) vs (transform-canonical cs) cv (λ r l. transform-value cs canonical r l ∙ values r l)
  where
    c : ℕ → F.A
    c = interp F 64 W U roots half two_halves 6 1 (co vs)

    cs : List ℕ
    cs = tab 64 (λ j. (c j).0)

    canonical : Coefficients 64 cs
    canonical = tab_below P 64 (λ j. (c j).0) p_pos (λ j l. (c j).1)

    co_c : (j : ℕ) → j < 64 → co cs j ≡ c j
    co_c j h = ap (λ n. el n) (get_or-tab 64 (λ m. (c m).0) 0 j h) ∙ mk_val P p_pos (c j)

    values : (r : ℕ) → r < 64 → poly F 64 (co cs) (W (64 + r)) ≡ co vs r
    values r h = poly_ext F 64 (co cs) c (W (64 + r)) co_c ∙ found (co vs) r h
