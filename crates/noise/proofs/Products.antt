-- The lanes of sums, of products modulo X^64 + 1, of products of vectors, and of b·c - d·a, worked out from the lanes of the factors.
use mathlib.Core.Path.{◌≡◌, refl, sym, ap, ◌∙◌, subst}
use mathlib.Core.Bool.{Bool, true, false}
use mathlib.Core.List.{List}
use Prim.Native.Nat.{ℕ, zero, suc, ◌+◌, ◌*◌, ◌-◌, ◌%◌, ◌<◌}
use native.Mathlib.Nat.{mod-eq_of_lt}
use native.Mathlib.Omega.{arith}
use lib.Dec.{leb}
use lib.ListN.{get_or}
use borrow.Author.Tests.{leb-false}
use Rattle.laws.specs.Lists.{tab}
use Rattle.laws.specs.Sums.{total}
use Rattle.laws.specs.Congruence.{Cong}
use Rattle.laws.specs.Integers.{residue}
use Rattle.laws.proofs.Lists.{get_or-tab}
use Rattle.laws.proofs.Congruence.{c_eq, c_trans, c_sym, c_add, c_mul, c_mod}
use Rattle.laws.proofs.Integers.{Sized}
use Rattle.field.specs.Field.{P}
use Rattle.ring.specs.Elements.{minus, shift, product}
use Rattle.ring.specs.Matrices.{ring_dot}
use Rattle.ring.proofs.Residue.{remainders}
use Rattle.noise.proofs.Four.{Four, worth, none, add, negative, mul, On}
use Rattle.noise.proofs.Four.{worth_add, worth_negative, worth_mul, within-add, within_negative, within-mul}

-- ---- one number
pub on_cong : {b v w : ℕ} {e : Four} → Cong P v w → On b e v → On b e w
on_cong h o = record { worths = c_trans o.worths h; within = o.within }

pub on_add : {b c v w : ℕ} {e f : Four} → On b e v → On c f w → On (b + c) (add e f) (v + w)
on_add {e = e} {f = f} o p = record { worths = c_trans (worth_add e f) (c_add o.worths p.worths); within = within-add o.within p.within }

pub on_negative : {b w : ℕ} {e : Four} → w < P → On b e w → On b (negative e) (P - w)
on_negative {b} {w} {e} h o = record {
  worths = c_trans (worth_negative e) (c_eq (ap (λ (n : ℕ). P - n) (o.worths.same ∙ mod-eq_of_lt h)));
  within = within_negative o.within;
}

pub on_mul : {b c v w : ℕ} {e f : Four} → On b e v → On c f w → On (6 * (b * c)) (mul e f) (v * w)
on_mul {e = e} {f = f} o p = record { worths = c_trans (worth_mul e f) (c_mul o.worths p.worths); within = within-mul o.within p.within }

unfoldable pub total-lanes : ℕ → (ℕ → Four) → Four
total-lanes zero f = none
total-lanes (suc n) f = add (total-lanes n f) (f n)

pub on_total : (b n : ℕ) (f : ℕ → Four) (g : ℕ → ℕ) → ((i : ℕ) → i < n → On b (f i) (g i)) → On (n * b) (total-lanes n f) (total n g)
unfolding total-lanes total
on_total b zero f g h = record {
  worths = unfold worth residue in record { same = refl };
  within = record { s0 = nothing; s1 = nothing; s2 = nothing; s3 = nothing };
}
  where
    nothing : Sized none.l0 (0 * b)
    nothing = record { size = omega arith }
on_total b (suc n) f g h =
    subst (λ (k : ℕ). On k (add (total-lanes n f) (f n)) (total n g + g n)) (more n b)
    (on_add (on_total b n f g (λ i l. h i (omega arith))) (h n (omega arith)))
  where
    more : (n b : ℕ) → n * b + b ≡ suc n * b
    more n b = omega arith

-- ---- ring elements: lanes f of the 64 coefficients cs, of size b
pub record In (b : ℕ) (f : ℕ → Four) (cs : List ℕ) : Type 0 where
  pub canonical : (k : ℕ) → get_or cs k 0 < P
  pub on : (k : ℕ) → k < 64 → On b (f k) (get_or cs k 0)

-- an element given by its remainders
in_tab : (b : ℕ) (f : ℕ → Four) (g : ℕ → ℕ) → ((k : ℕ) → k < 64 → On b (f k) (g k)) → In b f (tab 64 (λ k. g k % P))
in_tab b f g h = record {
  canonical = (remainders 64 g).each;
  on = λ k l. on_cong (c_trans (c_sym c_mod) (c_eq (sym (get_or-tab 64 (λ k. g k % P) 0 k l)))) (h k l);
}

-- X^64 is -1
unfoldable pub shift_lanes : (ℕ → Four) → ℕ → ℕ → Four
shift_lanes f m i = elim (leb i m) [ true ↦ f (m - i) | false ↦ negative (f (64 + m - i)) ]

on_shift : (b : ℕ) (f : ℕ → Four) (y : List ℕ) → In b f y → (m i : ℕ) → m < 64 → i < 64 → On b (shift_lanes f m i) (shift y m i)
unfolding shift_lanes shift
on_shift b f y s m i hm hi = go (leb i m) refl
  where
    go : (t : Bool) → leb i m ≡ t
        → On b (elim t as (λ x. Four) [ true ↦ f (m - i) | false ↦ negative (f (64 + m - i)) ])
        (elim t as (λ x. ℕ) [ true ↦ get_or y (m - i) 0 | false ↦ P - get_or y (64 + m - i) 0 ])
    go true e = s.on (m - i) (omega arith)
    go false e =
        let l : m < i = leb-false i m e in
        on_negative (s.canonical (64 + m - i)) (s.on (64 + m - i) (omega arith))

unfoldable pub product-lanes : (ℕ → Four) → (ℕ → Four) → ℕ → Four
product-lanes f g m = total-lanes 64 (λ i. mul (f i) (shift_lanes g m i))

pub in_product : {b c : ℕ} {f g : ℕ → Four} {x y : List ℕ} → In b f x → In c g y → In (64 * (6 * (b * c))) (product-lanes f g) (product x y)
unfolding product-lanes product
in_product {b} {c} {f} {g} {x} {y} p q =
    in_tab (64 * (6 * (b * c))) (product-lanes f g) (λ m. total 64 (λ i. get_or x i 0 * shift y m i)) (λ m h.
    on_total (6 * (b * c)) 64 (λ i. mul (f i) (shift_lanes g m i)) (λ i. get_or x i 0 * shift y m i)
    (λ i l. on_mul (p.on i l) (on_shift c g y q m i h l)))

-- ---- vectors of n elements
unfoldable pub dot-lanes : ℕ → (ℕ → ℕ → Four) → (ℕ → ℕ → Four) → ℕ → Four
dot-lanes n u v k = total-lanes n (λ i. product-lanes (u i) (v i) k)

pub in_dot : {b c : ℕ} (n : ℕ) {u v : ℕ → ℕ → Four} {x y : ℕ → List ℕ}
    → ((i : ℕ) → i < n → In b (u i) (x i)) → ((i : ℕ) → i < n → In c (v i) (y i)) → In (n * (64 * (6 * (b * c)))) (dot-lanes n u v) (ring_dot n x y)
unfolding dot-lanes ring_dot
in_dot {b} {c} n {u} {v} {x} {y} p q =
    in_tab (n * (64 * (6 * (b * c)))) (dot-lanes n u v) (λ k. total n (λ i. get_or (product (x i) (y i)) k 0)) (λ k h.
    on_total (64 * (6 * (b * c))) n (λ i. product-lanes (u i) (v i) k) (λ i. get_or (product (x i) (y i)) k 0)
    (λ i l. (in_product (p i l) (q i l)).on k h))

-- b·c - d·a
unfoldable pub noise-lanes : ℕ → (ℕ → ℕ → Four) → (ℕ → ℕ → Four) → (ℕ → ℕ → Four) → (ℕ → ℕ → Four) → ℕ → Four
noise-lanes n a b c d k = add (dot-lanes n b c k) (negative (dot-lanes n d a k))

-- no lane of b·c - d·a is beyond 768 n s², where no lane of a, b, c, d is beyond s: 128 n products, each of six products of lanes
pub in_noise : (s n : ℕ) {fa fb fc fd : ℕ → ℕ → Four} {a b c d : ℕ → List ℕ}
    → ((i : ℕ) → i < n → In s (fa i) (a i)) → ((i : ℕ) → i < n → In s (fb i) (b i))
    → ((i : ℕ) → i < n → In s (fc i) (c i)) → ((i : ℕ) → i < n → In s (fd i) (d i))
    → In (n * (768 * (s * s))) (noise-lanes n fa fb fc fd) (minus 64 (ring_dot n b c) (ring_dot n d a))
unfolding noise-lanes minus
in_noise s n {fa} {fb} {fc} {fd} {a} {b} {c} {d} pa pb pc pd =
    in_tab (n * (768 * (s * s))) (noise-lanes n fa fb fc fd) (λ k. get_or (ring_dot n b c) k 0 + (P - get_or (ring_dot n d a) k 0)) (λ k h.
    let m = in_dot n pd pa in
    subst (λ (t : ℕ). On t (noise-lanes n fa fb fc fd k) (get_or (ring_dot n b c) k 0 + (P - get_or (ring_dot n d a) k 0))) (sizes n (s * s))
    (on_add ((in_dot n pb pc).on k h) (on_negative (m.canonical k) (m.on k h))))
  where
    sizes : (n t : ℕ) → n * (64 * (6 * t)) + n * (64 * (6 * t)) ≡ n * (768 * t)
    sizes n t = omega arith
