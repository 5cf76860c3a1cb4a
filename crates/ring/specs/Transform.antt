-- docs/SCHEME.md, "Transform": the 64 values of a polynomial, and the polynomial of 64 values. A polynomial is the list of its coefficients,
-- lowest first; numbers stand for field elements.
use Rattle.std.specs.Prelude.{List, [], ◌∷◌, ℕ, ◌+◌, ◌*◌, ◌-◌, ◌^◌, ◌/◌, ◌%◌, get_or}
use Rattle.laws.specs.Lists.{tab}
use Rattle.laws.specs.Sums.{total}
use Rattle.field.specs.Field.{P}

-- 2^41 - 2^25 - 2^9; its square is 8
abbrev pub psi : ℕ
psi = 2198989700608

-- the six bits of k in the other order
unfoldable pub brv : ℕ → ℕ
brv k = k % 2 * 32 + k / 2 % 2 * 16 + k / 4 % 2 * 8 + k / 8 % 2 * 4 + k / 16 % 2 * 2 + k / 32 % 2

-- the polynomial's value at x
unfoldable pub value : ℕ → List ℕ → ℕ
value x [] = 0
value x (c ∷ cs) = (c + x * value x cs) % P

-- where output k of the transform is the value
unfoldable pub point : ℕ → ℕ
point k = psi ^ (2 * brv k + 1) % P

unfoldable pub transform : List ℕ → List ℕ
transform cs = tab 64 (λ k. value (point k) cs)

-- 1/64
abbrev pub inv64 : ℕ
inv64 = 18158513693329981441

-- coefficient j is 1/64 of the sum of output k over (point k)^j; the 128th power of every point is 1
unfoldable pub untransform : List ℕ → List ℕ
untransform vs = tab 64 (λ j. inv64 * total 64 (λ k. get_or vs k 0 * (point k ^ (128 - j) % P)) % P)

-- entry k of the forward table, and of the inverse table
unfoldable pub zeta : ℕ → ℕ
zeta k = psi ^ brv k % P

unfoldable pub zeta_inv : ℕ → ℕ
zeta_inv k = psi ^ (128 - brv k) % P
