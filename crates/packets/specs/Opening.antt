-- When a ciphertext opens: demand 3 about the definition `dec`, which `opening` of proofs/Opening proves for every secret key and every ciphertext
-- of 320 numbers. Demand 3 about the public calls is specs/Demand3 of crate demands.
use Rattle.std.specs.Prelude.{◌≡◌, ◌↔◌, List, ℕ, ◌<◌, get_or}
use Rattle.ring.specs.Elements.{plus}
use Rattle.lanes.specs.Messages.{embed, extract}
use Rattle.noise.specs.Noise.{Lanes, limit, noise}
use Rattle.hash.specs.Fips202.{sha3_256}
use Rattle.packets.specs.Parameters.{payload_bytes}
use Rattle.packets.specs.Packets.{Bytes, key_of, first, second, public_key, sealing, key, dec}

module _ (count : ℕ → ℕ) where
  -- b·c - d·a, with a, c the key's short vectors and b, d the payload's; products and sums are those of the ring
  unfoldable pub noise_of : List ℕ → List ℕ → List ℕ
  noise_of sk m = noise 4 (first count (key_of sk)) (first count m) (second count (key_of sk)) (second count m)

  -- the payload is what extraction reads from embed(payload) + b·c - d·a
  abbrev pub Read : List ℕ → List ℕ → Type 0
  Read sk m = extract (plus 64 (embed m) (noise_of sk m)) ≡ m

  -- each coefficient of b·c - d·a is congruent modulo p to e0 + 2^16 e1 + 2^32 e2 + 2^48 e3 with every e from -16381 to 16381
  abbrev pub Quiet : List ℕ → List ℕ → Type 0
  Quiet sk m = (k : ℕ) → k < 64 → Lanes limit (get_or (noise_of sk m) k 0)

  -- a payload whose sealing under that key's own public key is this ciphertext, and which extraction reads
  pub record Opens (sk ct m : List ℕ) : Type 0 where
    pub payload : Bytes payload_bytes m
    pub sealed : sealing count (public_key count sk) m ≡ ct
    pub read : Read sk m

  pub record Opening (sk ct : List ℕ) : Type 0 where
    -- opening gives a key exactly when such a payload exists
    pub exactly : ((k : List ℕ) × (dec count sk ct ≡ key k)) ↔ ((m : List ℕ) × Opens sk ct m)
    -- there is then only one
    pub only_one : (m n : List ℕ) → Opens sk ct m → Opens sk ct n → m ≡ n
    -- and the key is its SHA3-256
    pub its_key : (m : List ℕ) → Opens sk ct m → dec count sk ct ≡ key (sha3_256 m)
    -- the second condition always holds if the noise is small
    pub small : (m : List ℕ) → Bytes payload_bytes m → Quiet sk m → Read sk m
