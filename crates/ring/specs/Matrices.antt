-- Vectors and matrices of ring elements, each one flat list, row by row: element i stands from 64 * i on. docs/SCHEME.md, "Layouts" and "Transform":
-- their product, over any height, inner size and width.
use Rattle.std.specs.Prelude.{List, ℕ, ◌+◌, ◌*◌, ◌/◌, ◌%◌, get_or}
use Rattle.laws.specs.Lists.{tab}
use Rattle.laws.specs.Sums.{total}
use Rattle.field.specs.Field.{P}
use Rattle.ring.specs.Transform.{transform}
use Rattle.ring.specs.Elements.{product}

-- element i
unfoldable pub cell : List ℕ → ℕ → List ℕ
cell l i = tab 64 (λ k. get_or l (i * 64 + k) 0)

-- n elements as one flat list
unfoldable pub flat : ℕ → (ℕ → List ℕ) → List ℕ
flat n f = tab (n * 64) (λ x. get_or (f (x / 64)) (x % 64) 0)

-- each of n elements transformed
unfoldable pub transforms : ℕ → List ℕ → List ℕ
transforms n l = flat n (λ i. transform (cell l i))

-- n transformed elements times n: the sum of the pointwise products
unfoldable pub dot : ℕ → (ℕ → List ℕ) → (ℕ → List ℕ) → List ℕ
dot n u v = tab 64 (λ k. total n (λ i. get_or (u i) k 0 * get_or (v i) k 0) % P)

-- n elements times n, not transformed: the sum of the products in the ring
unfoldable pub ring_dot : ℕ → (ℕ → List ℕ) → (ℕ → List ℕ) → List ℕ
ring_dot n u v = tab 64 (λ k. total n (λ i. get_or (product (u i) (v i)) k 0) % P)

-- h by n times n by w, of transformed elements: element (i, j) is row i times column j, and stands at i * w + j
unfoldable pub matrix : ℕ → ℕ → ℕ → List ℕ → List ℕ → List ℕ
matrix h n w a b = flat (h * w) (λ e. dot n (λ q. cell a (e / w * n + q)) (λ q. cell b (q * w + e % w)))
