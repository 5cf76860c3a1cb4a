-- What follows from demand 3 for packets that were sealed for the key, also through their bytes.
use mathlib.Core.Path.{◌≡◌, refl, ap, ◌∙◌}
use mathlib.Core.List.{List, [], ◌∷◌, ◌++◌}
use Prim.Native.Nat.{ℕ, ◌^◌}
use native.Mathlib.Nat.{lt_trans}
use native.Mathlib.Omega.{arith}
use lib.Dec.{lit<}
use lib.ListN.{length, take, drop, length-drop}
use lib.Seq.{take_at, drop_at, take_all, length-take-le}
use Rattle.laws.specs.Lists.{Below}
use Rattle.field.specs.Field.{Coefficients}
use Rattle.codec.specs.Layout.{words, bytes}
use Rattle.codec.specs.Sizes.{secret_key_bytes, ciphertext_numbers}
use Rattle.codec.proofs.Layouts.{words-bytes, length-bytes}
use Rattle.hash.specs.Fips202.{sha3_256}
use Rattle.hash.proofs.Outputs.{below_shake256}
use Rattle.packets.specs.Parameters.{vector_numbers, vector_bytes, key_bytes, seed_bytes, payload_bytes}
use Rattle.packets.specs.Packets.{Bytes, PublicKey, payload, secret_key, public_key, keygen, sealing, enc, key, dec}
use Rattle.packets.specs.Layout.{public_bytes, public_of}
use Rattle.packets.specs.Opening.{Quiet}
use Rattle.packets.proofs.Canonical.{append_below, public-canonical, sealing-canonical}
use Rattle.packets.proofs.Opening.{quiet_read, its_key_is}

-- ---- bytes
pub payload_is_bytes : (r : List ℕ) → Bytes payload_bytes (payload r)
unfolding payload
payload_is_bytes r = below_shake256 r payload_bytes

pub secret_key_is_bytes : (r : List ℕ) → Bytes secret_key_bytes (secret_key r)
unfolding secret_key
secret_key_is_bytes r =
    append_below 256 key_bytes seed_bytes _ _ (lit< tt) (below_shake256 (r ++ (1 ∷ [])) key_bytes) (below_shake256 (r ++ (0 ∷ [])) seed_bytes)

-- coefficients fit eight bytes
pub fits_word : (n : ℕ) (l : List ℕ) → Coefficients n l → Below (2 ^ 64) n l
fits_word n l h = record { size = h.size; each = λ i. lt_trans (h.each i) (lit< tt) }

-- reading a public key's bytes gives it back
pub public-back : (pk : PublicKey) → length pk.seed ≡ seed_bytes → Coefficients vector_numbers pk.ga → public_of (public_bytes pk) ≡ pk
unfolding public_of public_bytes
public-back pk hs hg =
    let packed = bytes pk.ga in
    let all = take_all vector_bytes packed (omega (arith, length-bytes pk.ga, hg.size)) in
    let back = ap (take vector_bytes) (drop_at pk.seed packed seed_bytes hs) ∙ all in
    let ga = ap words back ∙ words-bytes pk.ga vector_numbers (fits_word vector_numbers pk.ga hg) in
    λ i. record { seed = take_at pk.seed packed seed_bytes hs i; ga = ga i }

module _ (count : ℕ → ℕ) where
  seed-size : (sk : List ℕ) → length sk ≡ secret_key_bytes → length (public_key count sk).seed ≡ seed_bytes
  unfolding public_key
  seed-size sk h = length-take-le seed_bytes (drop key_bytes sk) (omega (arith, length-drop key_bytes sk, h))

  pub ciphertext-canonical : (pk : PublicKey) (r : List ℕ) → Coefficients ciphertext_numbers (enc count pk r).ciphertext
  unfolding enc
  ciphertext-canonical pk r = sealing-canonical count pk (payload r)

  -- keygen's public key is that of its secret key
  pub keygen-public : (r : List ℕ) → (keygen count r).public ≡ public_key count (keygen count r).secret
  unfolding keygen
  keygen-public r = refl

  -- a payload sealed for the key with small noise opens to its SHA3-256
  pub sealed-opens : (sk m : List ℕ) → Bytes payload_bytes m → Quiet count sk m
      → dec count sk (sealing count (public_key count sk) m) ≡ key (sha3_256 m)
  sealed-opens sk m h q =
      its_key_is count sk (sealing count (public_key count sk) m) m (record { payload = h; sealed = refl; read = quiet_read count sk m h q })

  -- a packet sealed for the key with small noise opens to its sealer's shared key
  pub packet_opens : (sk r : List ℕ) → Quiet count sk (payload r)
      → dec count sk (enc count (public_key count sk) r).ciphertext ≡ key (enc count (public_key count sk) r).shared
  unfolding enc
  packet_opens sk r q = sealed-opens sk (payload r) (payload_is_bytes r) q

  -- the same through the bytes of the public key,
  pub numbers_open : (sk r : List ℕ) → length sk ≡ secret_key_bytes → Quiet count sk (payload r)
      → let packet = enc count (public_of (public_bytes (public_key count sk))) r in
      dec count sk packet.ciphertext ≡ key packet.shared
  numbers_open sk r h q =
      let pk = public_key count sk in
      let e : public_of (public_bytes pk) ≡ pk = public-back pk (seed-size sk h) (public-canonical count sk) in
      rw e (packet_opens sk r q)

  -- and through those of the ciphertext
  pub words_back : (pk : PublicKey) (r : List ℕ) → words (bytes (enc count pk r).ciphertext) ≡ (enc count pk r).ciphertext
  words_back pk r = words-bytes (enc count pk r).ciphertext ciphertext_numbers (fits_word ciphertext_numbers _ (ciphertext-canonical pk r))

  pub bytes_open : (sk r : List ℕ) → length sk ≡ secret_key_bytes → Quiet count sk (payload r)
      → let packet = enc count (public_of (public_bytes (public_key count sk))) r in
      dec count sk (words (bytes packet.ciphertext)) ≡ key packet.shared
  bytes_open sk r h q = rw (words_back (public_of (public_bytes (public_key count sk))) r) (numbers_open sk r h q)
