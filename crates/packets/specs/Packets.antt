-- docs/SCHEME.md, "Keys and packets", line by line, on lists of numbers. A vector or matrix of ring elements is one flat list, row by row: element i
-- stands from 64 * i on. What depends on the short sampler takes as `count` how a byte's bits are counted; the Rust's is `ones`.
use Rattle.std.specs.Prelude.{Bool, true, false, List, [], ◌∷◌, ◌++◌, ℕ, eqb, get_or, take}
use Rattle.laws.specs.Choices.{pick}
use Rattle.laws.specs.Lists.{Below, part}
use Rattle.laws.specs.Tests.{all}
use Rattle.codec.specs.Sizes.{ciphertext_numbers}
use Rattle.ring.specs.Transform.{transform, untransform}
use Rattle.ring.specs.Elements.{plus, minus}
use Rattle.ring.specs.Matrices.{transforms, matrix}
use Rattle.lanes.specs.Messages.{embed, extract}
use Rattle.lanes.specs.Samplers.{uniforms, shorts}
use Rattle.hash.specs.Fips202.{shake256, sha3_256}
use Rattle.packets.specs.Parameters.{vector_numbers, vector_bytes, vectors_bytes, matrix_numbers, matrix_bytes}
use Rattle.packets.specs.Parameters.{key_bytes, seed_bytes, payload_bytes}

-- n bytes
abbrev pub Bytes : ℕ → List ℕ → Type 0
Bytes n l = Below 256 n l

pub record PublicKey : Type 0 where
  pub seed : List ℕ
  pub ga : List ℕ

pub record KeyPair : Type 0 where
  pub secret : List ℕ
  pub public : PublicKey

pub record Packet : Type 0 where
  pub shared : List ℕ
  pub ciphertext : List ℕ

-- a secret key is key, then seed
abbrev pub key_of : List ℕ → List ℕ
key_of sk = take key_bytes sk

abbrev pub seed_of : List ℕ → List ℕ
seed_of sk = part key_bytes seed_bytes sk

-- Matrix G: 9,216 bytes of SHAKE256(seed), 16 uniform ring elements, row by row, taken as already transformed
unfoldable pub G : List ℕ → List ℕ
G seed = uniforms matrix_numbers (shake256 seed matrix_bytes)

-- keygen: seed = SHAKE256(randomness, then byte 0), key = SHAKE256(randomness, then byte 1), 32 bytes each
unfoldable pub secret_key : List ℕ → List ℕ
secret_key r = shake256 (r ++ (1 ∷ [])) key_bytes ++ shake256 (r ++ (0 ∷ [])) seed_bytes

-- enc: payload = SHAKE256(randomness), 32 bytes
unfoldable pub payload : List ℕ → List ℕ
payload r = shake256 r payload_bytes

module _ (count : ℕ → ℕ) where
  -- Vectors a, c: 4,096 bytes of SHAKE256(key), first half a, second half c, four short elements each;
  -- b, d come from the payload as a, c from the key
  unfoldable pub first : List ℕ → List ℕ
  first k = shorts count vector_numbers (take vector_bytes (shake256 k vectors_bytes))

  unfoldable pub second : List ℕ → List ℕ
  second k = shorts count vector_numbers (part vector_bytes vector_bytes (shake256 k vectors_bytes))

  -- ga = G·a + c, of a matrix and a key
  unfoldable pub ga_of : List ℕ → List ℕ → List ℕ
  ga_of g k = plus vector_numbers (matrix 4 4 1 g (transforms 4 (first k))) (transforms 4 (second k))

  -- the public key of a secret key
  unfoldable pub public_key : List ℕ → PublicKey
  public_key sk = record { seed = seed_of sk; ga = ga_of (G (seed_of sk)) (key_of sk) }

  unfoldable pub keygen : List ℕ → KeyPair
  keygen r = record { secret = secret_key r; public = public_key (secret_key r) }

  -- bg = b·G + d, of a matrix and a payload
  unfoldable pub bg_of : List ℕ → List ℕ → List ℕ
  bg_of g m = plus vector_numbers (matrix 1 4 4 (transforms 4 (first m)) g) (transforms 4 (second m))

  -- bga_m = b·ga + embed(payload), with every vector and the embedding transformed first
  unfoldable pub bga_m_of : List ℕ → List ℕ → List ℕ
  bga_m_of ga m = plus 64 (matrix 1 4 1 (transforms 4 (first m)) ga) (transform (embed m))

  -- the sealing of a payload under a public key: bg, then bga_m
  unfoldable pub sealing : PublicKey → List ℕ → List ℕ
  sealing pk m = bg_of (G pk.seed) m ++ bga_m_of pk.ga m

  -- shared key = SHA3-256(payload)
  unfoldable pub enc : PublicKey → List ℕ → Packet
  enc pk r = record { shared = sha3_256 (payload r); ciphertext = sealing pk (payload r) }

  -- dec: extract from the inverse transform of bga_m - bg·a
  unfoldable pub extracted : List ℕ → List ℕ → List ℕ
  extracted sk ct =
      let bga = matrix 1 4 1 (take vector_numbers ct) (transforms 4 (first (key_of sk))) in
      extract (untransform (minus 64 (part vector_numbers 64 ct) bga))

-- what `dec` gives: the shared key, or refusal 3
pub data Opened : Type 0 where
  key : List ℕ → Opened
  differs : Opened

-- there is a key
unfoldable pub opens : Opened → Bool
opens (key k) = true
opens differs = false

-- the key, or what was there before
unfoldable pub key_or : Opened → List ℕ → List ℕ
key_or (key k) old = k
key_or differs old = old

-- the first n numbers are the same
unfoldable pub same : ℕ → List ℕ → List ℕ → Bool
same n s t = all (λ i. eqb (get_or s i 0) (get_or t i 0)) n

-- rebuild the public key, regenerate all coefficients, compare them all
unfoldable pub dec : (ℕ → ℕ) → List ℕ → List ℕ → Opened
dec count sk ct =
    let m = extracted count sk ct in
    pick (same ciphertext_numbers (sealing count (public_key count sk) m) ct) (key (sha3_256 m)) differs
