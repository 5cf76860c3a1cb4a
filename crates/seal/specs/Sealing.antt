-- Nobody needs to believe this file: the contracts of `keygen`, `enc` and `dec`, proved over it, cite the definitions of crate packets instead.
-- A sealing from its transformed vectors, and its opening: g is the matrix, a and c are the key's vectors, b and d the payload's.
use Rattle.std.specs.Prelude.{◌≡◌, Option, Some, None, List, ◌++◌, ℕ, ◌*◌, ◌-◌, length, take}
use Rattle.laws.specs.Choices.{pick}
use Rattle.laws.specs.Lists.{part}
use Rattle.codec.specs.Sizes.{ciphertext_numbers}
use Rattle.ring.specs.Transform.{transform, untransform}
use Rattle.ring.specs.Elements.{plus, minus}
use Rattle.ring.specs.Matrices.{transforms, matrix}
use Rattle.lanes.specs.Messages.{embed}
use Rattle.lanes.specs.Samplers.{ones}
use Rattle.hash.specs.Fips202.{shake256}
use Rattle.hash.specs.Running.{Running, drawn}
use Rattle.packets.specs.Parameters.{vector_numbers, matrix_bytes}
use Rattle.packets.specs.Packets.{first, second, public_key, sealing, extracted, same}

-- the two vectors of a key or of a payload, transformed
pub record Vectors (key left right : List ℕ) : Type 0 where
  pub left_is : left ≡ transforms 4 (first ones key)
  pub right_is : right ≡ transforms 4 (second ones key)

-- G·a + c
abbrev pub combined : List ℕ → List ℕ → List ℕ → List ℕ
combined g a c = plus vector_numbers (matrix 4 4 1 g a) c

-- b·G + d, then b·ga + embed(payload)
abbrev pub sealed : List ℕ → List ℕ → List ℕ → List ℕ → List ℕ → List ℕ
sealed g ga b d payload = plus vector_numbers (matrix 1 4 4 b g) d ++ plus 64 (matrix 1 4 1 b ga) (transform (embed payload))

-- the same under the public key of the vectors a and c
abbrev pub sealed_for : List ℕ → List ℕ → List ℕ → List ℕ → List ℕ → List ℕ → List ℕ
sealed_for g a c b d payload = sealed g (combined g a c) b d payload

-- bga_m - bg·a, back from the transform
abbrev pub unmasked : List ℕ → List ℕ → List ℕ
unmasked a ct = untransform (minus 64 (part vector_numbers 64 ct) (matrix 1 4 1 (take vector_numbers ct) a))

-- the payload that extraction reads, if its sealing is the ciphertext
abbrev pub opened : List ℕ → List ℕ → Option (List ℕ)
opened sk ct =
    let m = extracted ones sk ct in
    pick (same ciphertext_numbers (sealing ones (public_key ones sk) m) ct) (Some m) None

-- ---- G's bytes, drawn in two parts: 31 whole blocks up to the cut, and the others
abbrev pub cut : ℕ
cut = 136 * 31

abbrev pub others : ℕ
others = matrix_bytes - cut

-- the bytes up to the cut, and the others drawn from what is left of the stream
abbrev pub continued : Running → List ℕ → List ℕ
continued s bytes = take cut bytes ++ drawn 136 others s

-- continued so they are all of the seed's, and the second part begins with a block
pub record Begun (seed : List ℕ) (s : Running) (bytes : List ℕ) : Type 0 where
  pub size : length bytes ≡ matrix_bytes
  pub place : s.at ≡ 136
  pub whole : continued s bytes ≡ shake256 seed matrix_bytes
