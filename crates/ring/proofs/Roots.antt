-- The 64 places and the numbers of the transform's tree, by computed tests: each is the square of the one below it, each has its inverse, and the
-- sums of the places' powers. Primality of p is not used.
use mathlib.Core.Path.{◌≡◌, refl, sym, ◌∙◌, ap}
use mathlib.Core.Bool.{Bool, true, false}
use mathlib.Core.Logic.{◌≢◌}
use Prim.Native.Nat.{ℕ, ◌+◌, ◌*◌, ◌-◌, ◌^◌, ◌/◌, ◌%◌, ◌<◌}
use native.Mathlib.Omega.{arith}
use lib.Dec.{eqb, eqb→eq, T, lit<}
use Rattle.laws.specs.Rings.{pow, sum}
use Rattle.laws.specs.Sums.{total}
use Rattle.laws.proofs.Tests.{equal_at}
use Rattle.laws.proofs.Residues.{residue_path, mk_eq, mk_mul, mk_neg, mk_total, mk_pow}
use Rattle.laws.proofs.Sums.{sum_ext}
use Rattle.laws.proofs.Halving.{dbl, Roots, leaf_pow}
use Rattle.field.specs.Field.{P}
use Rattle.ring.specs.Transform.{brv, point, zeta, zeta_inv, inv64}
use Rattle.ring.proofs.Residue.{F, el, p_pos}

-- the numbers of the tree, in heap order: node n + n has zeta n, node n + n + 1 has - zeta n
unfoldable pub heap : ℕ → ℕ
heap n = elim (eqb (n % 2) 0) [ true ↦ zeta (n / 2) | false ↦ P - zeta (n / 2) ]

abbrev pub W : ℕ → F.A
W n = el (heap n)

abbrev pub U : ℕ → F.A
U n = el (zeta_inv n)

squares : (n : ℕ) → n < 64 → heap (n + n) * heap (n + n) % P ≡ heap n % P
unfolding heap zeta brv
squares = equal_at (λ n. heap (n + n) * heap (n + n) % P) (λ n. heap n % P) 64 tt

odds : (n : ℕ) → n < 64 → (heap (n + n) + heap (n + n + 1)) % P ≡ 0
unfolding heap zeta brv
odds = equal_at (λ n. (heap (n + n) + heap (n + n + 1)) % P) (λ n. 0) 64 tt

inverses : (n : ℕ) → n < 64 → heap (n + n) * zeta_inv n % P ≡ 1 % P
unfolding heap zeta zeta_inv brv
inverses = equal_at (λ n. heap (n + n) * zeta_inv n % P) (λ n. 1 % P) 64 tt

pub heap_even : (n : ℕ) → n < 64 → heap (n + n) ≡ zeta n
unfolding heap zeta brv
heap_even = equal_at (λ n. heap (n + n)) zeta 64 tt

-- node 64 + n is a leaf, and its number is place n
pub heap_leaf : (n : ℕ) → n < 64 → heap (64 + n) ≡ point n
unfolding heap zeta brv point
heap_leaf = equal_at (λ n. heap (64 + n)) point 64 tt

-- the inverse table holds the inverses
pub zeta_inverse : (n : ℕ) → n < 64 → zeta n * zeta_inv n % P ≡ 1
zeta_inverse n h = ap (λ z. z * zeta_inv n % P) (sym (heap_even n h)) ∙ inverses n h

pub roots : Roots F 64 W U
roots = record {
  square = λ n o h. sym (mk_mul P p_pos (heap (n + n)) (heap (n + n))) ∙ mk_eq P p_pos (heap (n + n) * heap (n + n)) (heap n) (squares n h);
  odd = λ n o h. mk_neg P p_pos (heap (n + n)) (heap (n + n + 1)) (odds n h);
  inverse = λ n o h. sym (mk_mul P p_pos (heap (n + n)) (zeta_inv n)) ∙ mk_eq P p_pos (heap (n + n) * zeta_inv n) 1 (inverses n h);
}

abbrev pub half : F.A
half = el 9223372034707292161

pub two_halves : F.add half half ≡ F.𝟙
two_halves = residue_path P p_pos refl

pub sixty_fourth : F.mul (el inv64) (el 64) ≡ F.𝟙
sixty_fourth = residue_path P p_pos refl

-- the 64th power of every place is -1
pub place_64 : (r : ℕ) → r < 64 → pow F (W (64 + r)) 64 ≡ F.neg F.𝟙
unfolding dbl heap zeta brv
place_64 r h = leaf_pow F 64 W U roots 6 1 r (omega arith) (omega arith) h ∙ residue_path P p_pos refl

-- the sum of the e-th powers of the 64 places, for e from 65 to 191: 64 at 128, and else 0
power_sums : (e : ℕ) → e < 127 → total 64 (λ n. point n ^ (65 + e)) % P ≡ elim (eqb e 63) [ true ↦ 64 | false ↦ 0 ]
unfolding total point brv
power_sums = equal_at (λ e. total 64 (λ n. point n ^ (65 + e)) % P) (λ e. elim (eqb e 63) [ true ↦ 64 | false ↦ 0 ]) 127 tt

unfoldable pub powers : ℕ → F.A
powers e = sum F 64 (λ n. pow F (el (point n)) e)

powers_is : (e : ℕ) → powers e ≡ el (total 64 (λ n. point n ^ e))
unfolding powers
powers_is e = sym (mk_total P p_pos 64 (λ n. point n ^ e) ∙ sum_ext F 64 _ (λ n. pow F (el (point n)) e) (λ n l. mk_pow P p_pos (point n) e))

pub powers_zero : (e : ℕ) → e < 127 → e ≢ 63 → powers (65 + e) ≡ F.𝟘
powers_zero e h q =
    powers_is (65 + e) ∙ mk_eq P p_pos (total 64 (λ n. point n ^ (65 + e))) 0 (power_sums e h ∙ go (eqb e 63) (λ t. q (eqb→eq e 63 t)))
  where
    go : (b : Bool) → ¬ (T b) → ◌≡◌ {A = ℕ} (elim b as (λ x. ℕ) [ true ↦ 64 | false ↦ 0 ]) 0
    go true h = absurd (h tt)
    go false h = refl

pub powers_128 : powers 128 ≡ el 64
powers_128 = powers_is 128 ∙ mk_eq P p_pos (total 64 (λ n. point n ^ 128)) 64 (power_sums 63 (lit< tt))
