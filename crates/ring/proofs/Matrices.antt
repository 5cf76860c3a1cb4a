-- Products of vectors and matrices of ring elements, over any height, inner size and width: cell by cell, associative; and what an opening leaves.
--
use mathlib.Core.Path.{◌≡◌, refl, sym, ◌∙◌, ap}
use mathlib.Core.List.{List}
use Prim.Native.Nat.{ℕ, ◌+◌, ◌*◌, ◌/◌, ◌%◌, ◌<◌}
use native.Mathlib.Nat.{mod-lt, mod-eq_of_lt, div-eq_of_lt, div-lt_iff_lt-mul, mul-le-mul_right, mul_comm, mul-one}
use mathlib.Core.Logic.{⊎_elim}
use native.Mathlib.Omega.{arith}
use lib.Arith.{digits_div, digits_mod}
use lib.Dec.{lit<}
use lib.ListN.{get_or}
use Rattle.laws.specs.Rings.{sum}
use Rattle.laws.specs.Sums.{total}
use Rattle.laws.proofs.Orders.{le_or_lt}
use Rattle.laws.proofs.Lists.{tab_ext}
use Rattle.laws.proofs.Residues.{mk_mul, mk_total}
use Rattle.laws.proofs.Sums.{sum_ext, total_ext, poly_ext, poly-sum}
use Rattle.laws.proofs.Convolution.{assoc_form, noise}
use Rattle.field.specs.Field.{P, Coefficients}
use Rattle.ring.specs.Transform.{transform, untransform}
use Rattle.ring.specs.Elements.{plus, minus, product}
use Rattle.ring.specs.Matrices.{cell, flat, dot, ring_dot, matrix}
use Rattle.ring.proofs.Residue.{F, co, co_tab, p_pos, same, remainders}
use Rattle.ring.proofs.Roots.{W}
use Rattle.ring.proofs.Transforms.{transform-canonical, transform-value, untransform-transform}
use Rattle.ring.proofs.Products.{plus-canonical, minus-canonical, product-canonical, plus_is, minus_is, hadamard_is}
use Rattle.ring.proofs.Products.{transform-product, transform-plus, transform-minus}
use Rattle.ring.proofs.Cells.{cell-whole, cell-flat, flat_ext, flat-canonical}

pub dot-canonical : (n : ℕ) (u v : ℕ → List ℕ) → Coefficients 64 (dot n u v)
unfolding dot
dot-canonical n u v = remainders 64 (λ k. total n (λ i. get_or (u i) k 0 * get_or (v i) k 0))

pub ring_dot_canonical : (n : ℕ) (u v : ℕ → List ℕ) → Coefficients 64 (ring_dot n u v)
unfolding ring_dot
ring_dot_canonical n u v = remainders 64 (λ k. total n (λ i. get_or (product (u i) (v i)) k 0))

pub dot_ext : (n : ℕ) (u v s t : ℕ → List ℕ) → ((i : ℕ) → i < n → u i ≡ s i) → ((i : ℕ) → i < n → v i ≡ t i) → dot n u v ≡ dot n s t
unfolding dot
dot_ext n u v s t hu hv = tab_ext 64 _ _ (λ k h. ap (λ w. w % P) (total_ext n _ _ (λ i l j. get_or (hu i l j) k 0 * get_or (hv i l j) k 0)))

-- over F
dot_is : (n : ℕ) (u v : ℕ → List ℕ) (k : ℕ) → k < 64 → co (dot n u v) k ≡ sum F n (λ i. F.mul (co (u i) k) (co (v i) k))
unfolding dot
dot_is n u v k h =
    co_tab 64 (λ k. total n (λ i. get_or (u i) k 0 * get_or (v i) k 0)) k h ∙ mk_total P p_pos n (λ i. get_or (u i) k 0 * get_or (v i) k 0)
    ∙ sum_ext F n _ (λ i. F.mul (co (u i) k) (co (v i) k)) (λ i l. mk_mul P p_pos (get_or (u i) k 0) (get_or (v i) k 0))

ring_dot_is : (n : ℕ) (u v : ℕ → List ℕ) (k : ℕ) → k < 64 → co (ring_dot n u v) k ≡ sum F n (λ i. co (product (u i) (v i)) k)
unfolding ring_dot
ring_dot_is n u v k h =
    co_tab 64 (λ k. total n (λ i. get_or (product (u i) (v i)) k 0)) k h ∙ mk_total P p_pos n (λ i. get_or (product (u i) (v i)) k 0)

-- the transform of a sum of products is the sum of the pointwise products of the transforms
pub transform-dot : (n : ℕ) (u v : ℕ → List ℕ) → ((i : ℕ) → i < n → Coefficients 64 (u i)) → ((i : ℕ) → i < n → Coefficients 64 (v i))
    → transform (ring_dot n u v) ≡ dot n (λ i. transform (u i)) (λ i. transform (v i))
transform-dot n u v cu cv =
    same 64 (transform (ring_dot n u v)) (dot n (λ i. transform (u i)) (λ i. transform (v i)))
    (transform-canonical (ring_dot n u v)) (dot-canonical n (λ i. transform (u i)) (λ i. transform (v i))) (λ r h.
    transform-value (ring_dot n u v) (ring_dot_canonical n u v) r h
    ∙ poly_ext F 64 (co (ring_dot n u v)) (λ k. sum F n (λ i. co (product (u i) (v i)) k)) (W (64 + r)) (ring_dot_is n u v)
    ∙ poly-sum F 64 n (λ i k. co (product (u i) (v i)) k) (W (64 + r))
    ∙ sum_ext F n _ (λ i. F.mul (co (transform (u i)) r) (co (transform (v i)) r)) (λ i l.
    sym (transform-value (product (u i) (v i)) (product-canonical (u i) (v i)) r h)
    ∙ ap (λ t. co t r) (transform-product (u i) (v i) (cu i l) (cv i l)) ∙ hadamard_is (transform (u i)) (transform (v i)) r h)
    ∙ sym (dot_is n (λ i. transform (u i)) (λ i. transform (v i)) r h))

-- element (i, j) of a product is row i times column j
pub matrix-cell : (h n w : ℕ) (a b : List ℕ) (i j : ℕ) → i < h → j < w
    → cell (matrix h n w a b) (i * w + j) ≡ dot n (λ q. cell a (i * n + q)) (λ q. cell b (q * w + j))
unfolding matrix
matrix-cell h n w a b i j hi hj =
    let s : i * w + j < h * w = omega (arith, mul-le-mul_right w hi) in
    cell-flat (h * w) element (i * w + j) s (dot-canonical n _ _).size
    ∙ (λ k. dot n (λ q. cell a (digits_div i hj k * n + q)) (λ q. cell b (q * w + digits_mod i hj k)))
  where
    element : ℕ → List ℕ
    element e = dot n (λ q. cell a (e / w * n + q)) (λ q. cell b (q * w + e % w))

pub matrix-canonical : (h n w : ℕ) (a b : List ℕ) → Coefficients (h * w * 64) (matrix h n w a b)
unfolding matrix
matrix-canonical h n w a b =
    flat-canonical (h * w) (λ e. dot n (λ q. cell a (e / w * n + q)) (λ q. cell b (q * w + e % w))) (λ e l. dot-canonical n _ _)

-- a matrix times a column, a row times a matrix, a row times a column
pub matrix_column : (h n : ℕ) (g v : List ℕ) (i : ℕ) → i < h → cell (matrix h n 1 g v) i ≡ dot n (λ q. cell g (i * n + q)) (cell v)
matrix_column h n g v i l =
    let e : i ≡ i * 1 + 0 = omega arith in
    ap (cell (matrix h n 1 g v)) e ∙ matrix-cell h n 1 g v i 0 l (lit< tt)
    ∙ dot_ext n _ _ _ _ (λ q m. refl) (λ q m. let o : q * 1 + 0 ≡ q = omega arith in ap (cell v) o)

pub matrix-row : (n w : ℕ) (v g : List ℕ) (j : ℕ) → j < w → cell (matrix 1 n w v g) j ≡ dot n (cell v) (λ q. cell g (q * w + j))
matrix-row n w v g j l =
    let e : j ≡ 0 * w + j = omega arith in
    ap (cell (matrix 1 n w v g)) e ∙ matrix-cell 1 n w v g 0 j (lit< tt) l
    ∙ dot_ext n _ _ _ _ (λ q m. let o : 0 * n + q ≡ q = omega arith in ap (cell v) o) (λ q m. refl)

pub matrix_single : (n : ℕ) (u v : List ℕ) → matrix 1 n 1 u v ≡ dot n (cell u) (cell v)
matrix_single n u v =
    sym (cell-whole (matrix 1 n 1 u v) (matrix-canonical 1 n 1 u v).size) ∙ matrix-row n 1 u v 0 (lit< tt)
    ∙ dot_ext n _ _ _ _ (λ q m. refl) (λ q m. let o : q * 1 + 0 ≡ q = omega arith in ap (cell v) o)

-- the same shapes as sums over the vector's elements, which stand first; matrix elements are taken `n` or 1 apart from sum to sum
pub dot_comm : (n : ℕ) (u v : ℕ → List ℕ) → dot n u v ≡ dot n v u
unfolding dot
dot_comm n u v = tab_ext 64 _ _ (λ k h. ap (λ w. w % P) (total_ext n _ _ (λ i l. mul_comm (get_or (u i) k 0) (get_or (v i) k 0))))

pub matrix_column_flat : (h n : ℕ) (g v : List ℕ) → matrix h n 1 g v ≡ flat h (λ e. dot n (cell v) (λ q. cell g (e * n + q * 1)))
unfolding matrix
matrix_column_flat h n g v =
    ap (λ c. flat c (λ e. dot n (λ q. cell g (e / 1 * n + q)) (λ q. cell v (q * 1 + e % 1)))) (mul-one h)
    ∙ flat_ext h _ _ (λ e l.
    dot_ext n _ _ (λ q. cell g (e * n + q * 1)) (cell v)
    (λ q m. let o : q ≡ q * 1 = omega arith in let d : e / 1 ≡ e = omega arith in (λ i. cell g (d i * n + o i)))
    (λ q m. let o : q * 1 + e % 1 ≡ q = omega arith in ap (cell v) o)
    ∙ dot_comm n (λ q. cell g (e * n + q * 1)) (cell v))

pub matrix_row_flat : (n w : ℕ) (v g : List ℕ) → matrix 1 n w v g ≡ flat w (λ e. dot n (cell v) (λ q. cell g (e * 1 + q * w)))
unfolding matrix
matrix_row_flat n w v g =
    ap (λ c. flat c (λ e. dot n (λ q. cell v (e / w * n + q)) (λ q. cell g (q * w + e % w)))) (one_mul_nat w)
    ∙ flat_ext w _ _ (λ e l.
    dot_ext n _ _ (cell v) (λ q. cell g (e * 1 + q * w))
    (λ q m. let d : e / w ≡ 0 = div-eq_of_lt l in let o : 0 * n + q ≡ q = omega arith in ap (λ x. cell v (x * n + q)) d ∙ ap (cell v) o)
    (λ q m. let o : q * w + e ≡ e * 1 + q * w = omega arith in ap (λ x. cell g (q * w + x)) (mod-eq_of_lt l) ∙ ap (cell g) o))
  where
    one_mul_nat : (k : ℕ) → 1 * k ≡ k
    one_mul_nat k = omega arith

-- u·(B·v) = (u·B)·v, of a row u, a matrix B and a column v
pub dot_assoc : (n m : ℕ) (u : ℕ → List ℕ) (B : ℕ → ℕ → List ℕ) (v : ℕ → List ℕ)
    → dot n u (λ r. dot m (B r) v) ≡ dot m (λ s. dot n u (λ r. B r s)) v
dot_assoc n m u B v =
    same 64 (dot n u (λ r. dot m (B r) v)) (dot m (λ s. dot n u (λ r. B r s)) v) (dot-canonical n _ _) (dot-canonical m _ _) (λ k h.
    dot_is n u (λ r. dot m (B r) v) k h
    ∙ sum_ext F n _ _ (λ r l. ap (λ w. F.mul (co (u r) k) w) (dot_is m (B r) v k h))
    ∙ assoc_form F n m (λ r. co (u r) k) (λ r s. co (B r s) k) (λ s. co (v s) k)
    ∙ sym (dot_is m (λ s. dot n u (λ r. B r s)) v k h
    ∙ sum_ext F m _ _ (λ s l. ap (λ w. F.mul w (co (v s) k)) (dot_is n u (λ r. B r s) k h))))

-- the product of matrices is associative wherever three shapes fit: h by n, n by m, m by w
pub matrix_assoc : (h n m w : ℕ) (a b c : List ℕ) → matrix h n w a (matrix n m w b c) ≡ matrix h m w (matrix h n m a b) c
unfolding matrix
matrix_assoc h n m w a b c = flat_ext (h * w) _ _ (λ e l. at e l (pos e l))
  where
    pos : (e : ℕ) → e < h * w → 0 < w
    pos e l = ⊎_elim (λ z. let g : h * w ≡ h * 0 = ap (λ x. h * x) (let y : w ≡ 0 = omega arith in y) in absurd (omega arith)) (λ z. z) (le_or_lt w 0)

    at : (e : ℕ) → e < h * w → 0 < w
        → dot n (λ q. cell a (e / w * n + q)) (λ q. cell (matrix n m w b c) (q * w + e % w))
        ≡ dot m (λ q. cell (matrix h n m a b) (e / w * m + q)) (λ q. cell c (q * w + e % w))
    at e l z =
        let i : e / w < h = (div-lt_iff_lt-mul z).1 l in
        dot_ext n _ _ _ _ (λ q g. refl) (λ q g. matrix-cell n m w b c q (e % w) g (mod-lt e z))
        ∙ dot_assoc n m (λ q. cell a (e / w * n + q)) (λ r s. cell b (r * m + s)) (λ q. cell c (q * w + e % w))
        ∙ sym (dot_ext m _ _ _ _ (λ q g. matrix-cell h n m a b (e / w) q i g) (λ q g. refl))

-- what an opening leaves: G is n by m, b and c have n elements, a and d have m
module _ (n m : ℕ) (G : ℕ → ℕ → List ℕ) (a b c d : ℕ → List ℕ) (e : List ℕ) where
  -- ga = G·a + c
  abbrev pub ga : ℕ → List ℕ
  ga r = plus 64 (dot m (G r) (λ s. transform (a s))) (transform (c r))

  -- bg = b·G + d
  abbrev pub bg : ℕ → List ℕ
  bg s = plus 64 (dot n (λ r. transform (b r)) (λ r. G r s)) (transform (d s))

  -- bga_m = b·ga + e
  abbrev pub bga_m : List ℕ
  bga_m = plus 64 (dot n (λ r. transform (b r)) ga) (transform e)

module _ (n m : ℕ) (G : ℕ → ℕ → List ℕ) (a b c d : ℕ → List ℕ) (e : List ℕ)
    (ca : (i : ℕ) → i < m → Coefficients 64 (a i)) (cb : (i : ℕ) → i < n → Coefficients 64 (b i))
    (cc : (i : ℕ) → i < n → Coefficients 64 (c i)) (cd : (i : ℕ) → i < m → Coefficients 64 (d i)) (ce : Coefficients 64 e) where
  -- at each place of the transformed domain
  transformed : minus 64 (bga_m n m G a b c d e) (dot m (bg n m G a b c d e) (λ s. transform (a s)))
      ≡ plus 64 (transform e) (minus 64 (dot n (λ r. transform (b r)) (λ r. transform (c r))) (dot m (λ s. transform (d s)) (λ s. transform (a s))))
  transformed =
      same 64 _ _ (minus-canonical 64 _ _) (plus-canonical 64 _ _) (λ k h.
      minus_is 64 (bga_m n m G a b c d e) (dot m (bg n m G a b c d e) A) (dot-canonical m _ _) k h
      ∙ (λ i. F.add (left k h i) (F.neg (right k h i)))
      ∙ noise F n m (λ r s. co (G r s) k) (λ s. co (A s) k) (λ r. co (B r) k) (λ r. co (C r) k) (λ s. co (D s) k) (co (transform e) k)
      ∙ sym (plus_is 64 (transform e) (minus 64 (dot n B C) (dot m D A)) k h
      ∙ ap (λ w. F.add (co (transform e) k) w) (minus_is 64 (dot n B C) (dot m D A) (dot-canonical m _ _) k h
      ∙ (λ i. F.add (dot_is n B C k h i) (F.neg (dot_is m D A k h i))))))
    where
      A : ℕ → List ℕ
      A s = transform (a s)

      B : ℕ → List ℕ
      B r = transform (b r)

      C : ℕ → List ℕ
      C r = transform (c r)

      D : ℕ → List ℕ
      D s = transform (d s)

      left : (k : ℕ) → k < 64 → co (bga_m n m G a b c d e) k
          ≡ F.add (sum F n (λ r. F.mul (co (B r) k) (F.add (sum F m (λ s. F.mul (co (G r s) k) (co (A s) k))) (co (C r) k)))) (co (transform e) k)
      left k h =
          plus_is 64 (dot n B (ga n m G a b c d e)) (transform e) k h
          ∙ ap (λ w. F.add w (co (transform e) k)) (dot_is n B (ga n m G a b c d e) k h
          ∙ sum_ext F n _ _ (λ r l. ap (λ w. F.mul (co (B r) k) w)
          (plus_is 64 (dot m (G r) A) (C r) k h ∙ ap (λ w. F.add w (co (C r) k)) (dot_is m (G r) A k h))))

      right : (k : ℕ) → k < 64 → co (dot m (bg n m G a b c d e) A) k
          ≡ sum F m (λ s. F.mul (F.add (sum F n (λ r. F.mul (co (B r) k) (co (G r s) k))) (co (D s) k)) (co (A s) k))
      right k h =
          dot_is m (bg n m G a b c d e) A k h
          ∙ sum_ext F m _ _ (λ s l. ap (λ w. F.mul w (co (A s) k))
          (plus_is 64 (dot n B (λ r. G r s)) (D s) k h ∙ ap (λ w. F.add w (co (D s) k)) (dot_is n B (λ r. G r s) k h)))

  -- e + b·c - d·a
  pub opened : untransform (minus 64 (bga_m n m G a b c d e) (dot m (bg n m G a b c d e) (λ s. transform (a s))))
      ≡ plus 64 e (minus 64 (ring_dot n b c) (ring_dot m d a))
  opened =
      ap (λ l. untransform l) (transformed ∙ sym (
      transform-plus e (minus 64 (ring_dot n b c) (ring_dot m d a)) ce (minus-canonical 64 _ _)
      ∙ ap (λ l. plus 64 (transform e) l) (transform-minus (ring_dot n b c) (ring_dot m d a) (ring_dot_canonical n b c) (ring_dot_canonical m d a)
      ∙ (λ i. minus 64 (transform-dot n b c cb cc i) (transform-dot m d a cd ca i)))))
      ∙ untransform-transform (plus 64 e (minus 64 (ring_dot n b c) (ring_dot m d a))) (plus-canonical 64 _ _)
