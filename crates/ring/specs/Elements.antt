-- Ring elements as lists of 64 canonical numbers: sums, differences, pointwise products, and the product modulo X^64 + 1 and p.
-- docs/SCHEME.md, "Transform".
use Rattle.std.specs.Prelude.{true, false, List, ℕ, suc, ◌+◌, ◌*◌, ◌-◌, ◌%◌, eqb, leb, get_or}
use Rattle.laws.specs.Lists.{tab}
use Rattle.laws.specs.Sums.{total}
use Rattle.laws.specs.Congruence.{Cong}
use Rattle.field.specs.Field.{P, Coefficients}

-- n coefficients plus n, and minus n: a ring element has 64, a vector of four 256
unfoldable pub plus : ℕ → List ℕ → List ℕ → List ℕ
plus n a b = tab n (λ k. (get_or a k 0 + get_or b k 0) % P)

unfoldable pub minus : ℕ → List ℕ → List ℕ → List ℕ
minus n a b = tab n (λ k. (get_or a k 0 + (P - get_or b k 0)) % P)

-- the products of the entries of two transformed elements
unfoldable pub hadamard : List ℕ → List ℕ → List ℕ
hadamard a b = tab 64 (λ k. get_or a k 0 * get_or b k 0 % P)

-- coefficient m of X^i times b, modulo X^64 + 1
unfoldable pub shift : List ℕ → ℕ → ℕ → ℕ
shift b m i = elim (leb i m) [ true ↦ get_or b (m - i) 0 | false ↦ P - get_or b (64 + m - i) 0 ]

-- the product modulo X^64 + 1 and p (`product_remainder` and `remainder_only` of proofs/Remainders say that it is)
unfoldable pub product : List ℕ → List ℕ → List ℕ
product a b = tab 64 (λ m. total 64 (λ i. get_or a i 0 * shift b m i) % P)

-- coefficient m of the plain product of two polynomials: nothing is reduced
unfoldable pub convolution : List ℕ → List ℕ → ℕ → ℕ
convolution a b m = total (suc m) (λ i. get_or a i 0 * get_or b (m - i) 0)

-- X^64 + 1
unfoldable pub modulus : List ℕ
modulus = tab 65 (λ k. elim (eqb (k % 64) 0) [ true ↦ 1 | false ↦ 0 ])

-- r is what the plain product of a and b leaves on division by X^64 + 1, modulo p: the product is some polynomial times X^64 + 1, plus r
pub record Remainder (a b r : List ℕ) : Type 0 where
  pub quotient : List ℕ
  pub canonical : Coefficients 64 r
  pub congruent : (m : ℕ) → Cong P (convolution a b m) (convolution quotient modulus m + get_or r m 0)
