-- Lists of 64 canonical numbers, with `plus` and `product`, are a commutative ring.
use mathlib.Core.Path.{◌≡◌, ◌∙◌, ap}
use mathlib.Core.HLevel.{Σ_prop_path}
use mathlib.Core.Bool.{Bool, true, false}
use mathlib.Core.List.{List}
use Prim.Native.Nat.{ℕ, ◌<◌}
use lib.Dec.{eqb, lit<}
use lib.ListN.{get_or}
use Rattle.laws.specs.Lists.{tab, tab_from, zeros}
use Rattle.laws.specs.Rings.{CRing}
use Rattle.laws.proofs.Tests.{equal_at}
use Rattle.laws.proofs.Rings.{zero-add}
use Rattle.laws.proofs.Pointwise.{pointwise}
use Rattle.laws.proofs.Bounds.{tab_below, below_prop}
use Rattle.field.specs.Field.{P, Coefficients}
use Rattle.ring.specs.Transform.{brv, value, point, transform}
use Rattle.ring.specs.Elements.{plus, minus, product}
use Rattle.ring.proofs.Residue.{F, el, co, p_pos, same}
use Rattle.ring.proofs.Transforms.{transform_inj, transform-canonical}
use Rattle.ring.proofs.Products.{plus-canonical, minus-canonical, product-canonical, plus_is, minus_is, hadamard_is}
use Rattle.ring.proofs.Products.{transform-product, transform-plus, transform-minus}

-- 1; 0 is `zeros 64`
unfoldable pub one : List ℕ
one = tab 64 (λ k. elim (eqb k 0) [ true ↦ 1 | false ↦ 0 ])

zeros-canonical : Coefficients 64 (zeros 64)
unfolding zeros
zeros-canonical = tab_below P 64 (λ k. 0) p_pos (λ k h. p_pos)

one-canonical : Coefficients 64 one
unfolding one
one-canonical = tab_below P 64 (λ k. elim (eqb k 0) [ true ↦ 1 | false ↦ 0 ]) p_pos (λ k h. go (eqb k 0))
  where
    go : (b : Bool) → elim b as (λ x. ℕ) [ true ↦ 1 | false ↦ 0 ] < P
    go true = lit< tt
    go false = lit< tt

-- what a law says is said at each of the 64 places
abbrev at : List ℕ → ℕ → F.A
at l r = co (transform l) r

at-zeros : (r : ℕ) → r < 64 → at (zeros 64) r ≡ F.𝟘
unfolding zeros transform tab tab_from value point brv
at-zeros r h = ap (λ n. el n) (equal_at (λ k. get_or (transform (zeros 64)) k 0) (λ k. 0) 64 tt r h)

at_one : (r : ℕ) → r < 64 → at one r ≡ F.𝟙
unfolding one transform tab tab_from value point brv
at_one r h = ap (λ n. el n) (equal_at (λ k. get_or (transform one) k 0) (λ k. 1) 64 tt r h)

-- a ring element
abbrev pub Element : Type 0
Element = (l : List ℕ) × Coefficients 64 l

same_places : (a b : Element) → ((r : ℕ) → r < 64 → at a.0 r ≡ at b.0 r) → a ≡ b
same_places a b e = Σ_prop_path (λ (l : List ℕ). below_prop P 64 l) {u = a} {v = b}
    (transform_inj a.0 b.0 a.1 b.1 (same 64 _ _ (transform-canonical a.0) (transform-canonical b.0) e))

abbrev pub add : Element → Element → Element
add a b = (plus 64 a.0 b.0, plus-canonical 64 a.0 b.0)

abbrev pub mul : Element → Element → Element
mul a b = (product a.0 b.0, product-canonical a.0 b.0)

abbrev pub neg : Element → Element
neg a = (minus 64 (zeros 64) a.0, minus-canonical 64 (zeros 64) a.0)

at-add : (a b : Element) (r : ℕ) → r < 64 → at (add a b).0 r ≡ F.add (at a.0 r) (at b.0 r)
at-add a b r h =
    ap (λ l. co l r) (transform-plus a.0 b.0 a.1 b.1) ∙ plus_is 64 (transform a.0) (transform b.0) r h

at_mul : (a b : Element) (r : ℕ) → r < 64 → at (mul a b).0 r ≡ F.mul (at a.0 r) (at b.0 r)
at_mul a b r h =
    ap (λ l. co l r) (transform-product a.0 b.0 a.1 b.1) ∙ hadamard_is (transform a.0) (transform b.0) r h

at-neg : (a : Element) (r : ℕ) → r < 64 → at (neg a).0 r ≡ F.neg (at a.0 r)
at-neg a r h =
    ap (λ l. co l r) (transform-minus (zeros 64) a.0 zeros-canonical a.1)
    ∙ minus_is 64 (transform (zeros 64)) (transform a.0) (transform-canonical a.0) r h
    ∙ ap (λ w. F.add w (F.neg (at a.0 r))) (at-zeros r h) ∙ zero-add F (F.neg (at a.0 r))

-- the ring
pub polynomials : CRing
polynomials =
    pointwise F 64 add mul neg (zeros 64, zeros-canonical) (one, one-canonical) (λ a. at a.0) same_places at-add at_mul at-neg
    at-zeros at_one
