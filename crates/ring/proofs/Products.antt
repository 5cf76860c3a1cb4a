-- Ring elements and their transforms: a sum's, a difference's and a product's.
use mathlib.Core.Path.{◌≡◌, refl, sym, ◌∙◌, ap}
use mathlib.Core.Bool.{Bool, true, false}
use mathlib.Core.List.{List}
use Prim.Native.Nat.{ℕ, ◌+◌, ◌*◌, ◌-◌, ◌<◌}
use lib.Dec.{leb}
use lib.ListN.{get_or}
use Rattle.laws.specs.Rings.{poly}
use Rattle.laws.specs.Sums.{total}
use Rattle.laws.proofs.Residues.{mk_add, mk_mul, mk_sub, mk_total}
use Rattle.laws.proofs.Sums.{sum_ext, poly_ext, poly-add, poly-neg}
use Rattle.laws.proofs.Convolution.{wrap, nega, nega_value}
use Rattle.field.specs.Field.{P, Coefficients}
use Rattle.ring.specs.Transform.{transform, untransform}
use Rattle.ring.specs.Elements.{plus, minus, hadamard, shift, product}
use Rattle.ring.proofs.Residue.{F, el, co, co_tab, p_pos, same, remainders}
use Rattle.ring.proofs.Roots.{W, place_64}
use Rattle.ring.proofs.Transforms.{transform-canonical, transform-value, untransform-transform}

pub plus-canonical : (n : ℕ) (a b : List ℕ) → Coefficients n (plus n a b)
unfolding plus
plus-canonical n a b = remainders n (λ k. get_or a k 0 + get_or b k 0)

pub minus-canonical : (n : ℕ) (a b : List ℕ) → Coefficients n (minus n a b)
unfolding minus
minus-canonical n a b = remainders n (λ k. get_or a k 0 + (P - get_or b k 0))

pub hadamard-canonical : (a b : List ℕ) → Coefficients 64 (hadamard a b)
unfolding hadamard
hadamard-canonical a b = remainders 64 (λ k. get_or a k 0 * get_or b k 0)

pub product-canonical : (a b : List ℕ) → Coefficients 64 (product a b)
unfolding product
product-canonical a b = remainders 64 (λ m. total 64 (λ i. get_or a i 0 * shift b m i))

-- entry by entry, over F
pub plus_is : (n : ℕ) (a b : List ℕ) (k : ℕ) → k < n → co (plus n a b) k ≡ F.add (co a k) (co b k)
unfolding plus
plus_is n a b k h = co_tab n (λ m. get_or a m 0 + get_or b m 0) k h ∙ mk_add P p_pos (get_or a k 0) (get_or b k 0)

pub minus_is : (n : ℕ) (a b : List ℕ) → Coefficients n b → (k : ℕ) → k < n → co (minus n a b) k ≡ F.add (co a k) (F.neg (co b k))
unfolding minus
minus_is n a b cb k h =
    co_tab n (λ m. get_or a m 0 + (P - get_or b m 0)) k h ∙ mk_add P p_pos (get_or a k 0) (P - get_or b k 0)
    ∙ ap (λ w. F.add (co a k) w) (mk_sub P p_pos (get_or b k 0) (cb.each k))

pub hadamard_is : (a b : List ℕ) (k : ℕ) → k < 64 → co (hadamard a b) k ≡ F.mul (co a k) (co b k)
unfolding hadamard
hadamard_is a b k h = co_tab 64 (λ m. get_or a m 0 * get_or b m 0) k h ∙ mk_mul P p_pos (get_or a k 0) (get_or b k 0)

shift_is : (b : List ℕ) → Coefficients 64 b → (m i : ℕ) → el (shift b m i) ≡ wrap F 64 (co b) m i
unfolding shift wrap
shift_is b cb m i = go (leb i m)
  where
    go : (c : Bool) → el (elim c as (λ x. ℕ) [ true ↦ get_or b (m - i) 0 | false ↦ P - get_or b (64 + m - i) 0 ])
        ≡ elim c as (λ x. F.A) [ true ↦ co b (m - i) | false ↦ F.neg (co b (64 + m - i)) ]
    go true = refl
    go false = mk_sub P p_pos (get_or b (64 + m - i) 0) (cb.each (64 + m - i))

pub product_is : (a b : List ℕ) → Coefficients 64 b → (m : ℕ) → m < 64 → co (product a b) m ≡ nega F 64 (co a) (co b) m
unfolding product nega
product_is a b cb m h =
    co_tab 64 (λ m. total 64 (λ i. get_or a i 0 * shift b m i)) m h ∙ mk_total P p_pos 64 (λ i. get_or a i 0 * shift b m i)
    ∙ sum_ext F 64 _ (λ i. F.mul (co a i) (wrap F 64 (co b) m i))
    (λ i l. mk_mul P p_pos (get_or a i 0) (shift b m i) ∙ ap (λ w. F.mul (co a i) w) (shift_is b cb m i))

-- the transform of a product is the pointwise product of the transforms
pub transform-product : (a b : List ℕ) → Coefficients 64 a → Coefficients 64 b → transform (product a b) ≡ hadamard (transform a) (transform b)
transform-product a b ca cb =
    same 64 _ _ (transform-canonical (product a b)) (hadamard-canonical (transform a) (transform b)) (λ r h.
    transform-value (product a b) (product-canonical a b) r h
    ∙ poly_ext F 64 (co (product a b)) (nega F 64 (co a) (co b)) (W (64 + r)) (product_is a b cb)
    ∙ nega_value F 64 (co a) (co b) (W (64 + r)) (place_64 r h)
    ∙ sym (hadamard_is (transform a) (transform b) r h ∙ (λ i. F.mul (transform-value a ca r h i) (transform-value b cb r h i))))

-- the product taken through the transforms is the product
pub product_through : (a b : List ℕ) → Coefficients 64 a → Coefficients 64 b → untransform (hadamard (transform a) (transform b)) ≡ product a b
product_through a b ca cb =
    ap (λ l. untransform l) (sym (transform-product a b ca cb)) ∙ untransform-transform (product a b) (product-canonical a b)

pub transform-plus : (a b : List ℕ) → Coefficients 64 a → Coefficients 64 b → transform (plus 64 a b) ≡ plus 64 (transform a) (transform b)
transform-plus a b ca cb =
    same 64 _ _ (transform-canonical (plus 64 a b)) (plus-canonical 64 (transform a) (transform b)) (λ r h.
    transform-value (plus 64 a b) (plus-canonical 64 a b) r h
    ∙ poly_ext F 64 (co (plus 64 a b)) (λ k. F.add (co a k) (co b k)) (W (64 + r)) (plus_is 64 a b)
    ∙ poly-add F 64 (co a) (co b) (W (64 + r))
    ∙ sym (plus_is 64 (transform a) (transform b) r h ∙ (λ i. F.add (transform-value a ca r h i) (transform-value b cb r h i))))

pub transform-minus : (a b : List ℕ) → Coefficients 64 a → Coefficients 64 b → transform (minus 64 a b) ≡ minus 64 (transform a) (transform b)
transform-minus a b ca cb =
    same 64 _ _ (transform-canonical (minus 64 a b)) (minus-canonical 64 (transform a) (transform b)) (λ r h.
    transform-value (minus 64 a b) (minus-canonical 64 a b) r h
    ∙ poly_ext F 64 (co (minus 64 a b)) (λ k. F.add (co a k) (F.neg (co b k))) (W (64 + r)) (minus_is 64 a b cb)
    ∙ poly-add F 64 (co a) (λ k. F.neg (co b k)) (W (64 + r))
    ∙ ap (λ w. F.add (poly F 64 (co a) (W (64 + r))) w) (poly-neg F 64 (co b) (W (64 + r)))
    ∙ sym (minus_is 64 (transform a) (transform b) (transform-canonical b) r h
    ∙ (λ i. F.add (transform-value a ca r h i) (F.neg (transform-value b cb r h i)))))

-- the product, step by step
pub multiplied : {a b s t u v w r : List ℕ} → Coefficients 64 a → Coefficients 64 b → s ≡ a → t ≡ b → u ≡ transform s → v ≡ transform t
    → w ≡ hadamard u v → r ≡ untransform w → r ≡ product a b
multiplied {a} {b} ca cb es et eu ev ew er =
    er ∙ ap untransform (ew ∙ (λ i. hadamard ((eu ∙ ap transform es) i) ((ev ∙ ap transform et) i))) ∙ product_through a b ca cb
