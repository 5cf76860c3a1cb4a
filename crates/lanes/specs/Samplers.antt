-- docs/SCHEME.md, "Sampling". A sampler takes its bytes from place s of a list on; a ring element has 64 coefficients, a vector of the key 256, the
-- matrix 1,024, and all are one definition over the number of coefficients.
use Rattle.std.specs.Prelude.{List, ℕ, zero, suc, ◌+◌, ◌*◌, ◌-◌, ◌%◌, get_or}
use Rattle.laws.specs.Lists.{tab}
use Rattle.field.specs.Field.{P}
use Rattle.laws.specs.Bits.{bit}
use Rattle.lanes.specs.FourLanes.{placed}

-- n bytes from place s on, the first one the highest
unfoldable pub big_endian : List ℕ → ℕ → ℕ → ℕ
big_endian l s zero = 0
big_endian l s (suc n) = big_endian l s n * 256 + get_or l (s + n) 0

-- Uniform: nine bytes, big-endian, modulo p. Nothing is rejected.
unfoldable pub uniform : List ℕ → ℕ → ℕ
uniform l s = big_endian l s 9 % P

unfoldable pub uniforms : ℕ → List ℕ → List ℕ
uniforms n l = tab n (λ k. uniform l (9 * k))

-- how many of a byte's bits are set
unfoldable pub ones : ℕ → ℕ
ones n = bit n 0 + bit n 1 + bit n 2 + bit n 3 + bit n 4 + bit n 5 + bit n 6 + bit n 7

-- for any count of a byte's bits; the Rust's is `ones`
module _ (count : ℕ → ℕ) where
  -- the counts in four bytes stand at 2^48, 2^32, 2^16 and 1
  unfoldable pub counts : List ℕ → ℕ → ℕ
  counts l s = placed (count (get_or l (s + 3) 0)) (count (get_or l (s + 2) 0)) (count (get_or l (s + 1) 0)) (count (get_or l s 0))

  -- Short: eight bytes. The number of bytes 0 to 3 minus that of bytes 4 to 7, in the field.
  unfoldable pub short : List ℕ → ℕ → ℕ
  short l s = (counts l s + (P - counts l (s + 4) % P)) % P

  unfoldable pub shorts : ℕ → List ℕ → List ℕ
  shorts n l = tab n (λ k. short l (8 * k))
