-- docs/SCHEME.md, "Points at the edges": the points with *, as one table and one statement over it.
use Rattle.std.specs.Prelude.{true, false, List, [], ◌∷◌, ◌++◌, map, ℕ, ◌-◌, eqb, get_or, replicate, take}
use Rattle.laws.specs.Lists.{tab}
use Rattle.laws.specs.Points.{Row, row, Holds}
use Rattle.field.specs.Field.{P}
use Rattle.ring.specs.Transform.{transform}
use Rattle.ring.specs.Elements.{product}
use Rattle.laws.specs.Bits.{bit}
use Rattle.lanes.specs.FourLanes.{placed}
use Rattle.lanes.specs.Samplers.{uniform, ones, short}
use Rattle.lanes.specs.Messages.{embed, chunk_bit, read}

-- what is asked: the bit of a chunk; the bits of a coefficient that has these four chunks; the first two coefficients of a payload that begins with
-- this byte; the coefficient drawn from these bytes; X^i times X^j; some outputs of the transform of X^i
pub data Asked : Type 0 where
  bit_of : ℕ → Asked
  bits_of : ℕ → ℕ → ℕ → ℕ → Asked
  embed_byte : ℕ → Asked
  draw_uniform : List ℕ → Asked
  draw_short : List ℕ → Asked
  times : ℕ → ℕ → Asked
  outputs : ℕ → List ℕ → Asked

-- X^i
unfoldable pub monomial : ℕ → List ℕ
monomial i = tab 64 (λ k. elim (eqb k i) [ true ↦ 1 | false ↦ 0 ])

-- what the definitions answer
unfoldable pub answer : Asked → List ℕ
answer (bit_of c) = chunk_bit c ∷ []
answer (bits_of c0 c1 c2 c3) = tab 4 (λ j. bit (read (placed c0 c1 c2 c3)) j)
answer (embed_byte b) = take 2 (embed (b ∷ replicate 31 0))
answer (draw_uniform l) = uniform l 0 ∷ []
answer (draw_short l) = short ones l 0 ∷ []
answer (times i j) = product (monomial i) (monomial j)
answer (outputs i ks) = map (λ (k : ℕ). get_or (transform (monomial i)) k 0) ks

-- what the table of docs/SCHEME.md tells
unfoldable pub points : List (Row Asked)
points =
    row (bit_of 16383) (0 ∷ [])
    ∷ row (bit_of 16384) (1 ∷ [])
    ∷ row (bit_of 49152) (1 ∷ [])
    ∷ row (bit_of 49153) (0 ∷ [])
    ∷ row (bits_of 1 65535 49152 65534) (0 ∷ 0 ∷ 1 ∷ 0 ∷ [])
    ∷ row (embed_byte 0xFF) (9223512776490647552 ∷ 9223512776490647552 ∷ [])
    ∷ row (embed_byte 0x10) (0 ∷ 32768 ∷ [])
    ∷ row (draw_uniform (0 ∷ replicate 8 0xFF)) (4294967294 ∷ [])
    ∷ row (draw_uniform (1 ∷ replicate 8 0)) (4294967295 ∷ [])
    ∷ row (draw_uniform (replicate 9 0xFF)) (1099511627519 ∷ [])
    ∷ row (draw_short (replicate 4 0xFF ++ replicate 4 0)) (2251834173947912 ∷ [])
    ∷ row (draw_short (replicate 7 0 ++ (1 ∷ []))) ((P - 1) ∷ [])
    ∷ row (times 63 1) ((P - 1) ∷ replicate 63 0)
    ∷ row (outputs 1 (0 ∷ 1 ∷ [])) (2198989700608 ∷ 18446741870424883713 ∷ [])
    ∷ []

-- each is what the definitions answer (`edges` of proofs/Points)
abbrev pub Edges : Type 0
Edges = Holds answer points
