-- DEMAND 3. For every 64-byte secret key and every ciphertext of 320 coefficients below p, opening, with 32 bytes lent for the shared key, gives a
-- key exactly when a payload exists whose sealing under that key's own public key is this ciphertext and which is what extraction reads from
-- embed(payload) + b·c - d·a. There is then only one, and the key is its SHA3-256. `demand_3` of proofs/Demand3 proves it.
use Rattle.std.specs.Prelude.{◌≡◌, List, ◌↔◌, ℕ, Result, Ok, Err, ⊤}
use Rattle.codec.specs.Layout.{words, bytes}
use Rattle.codec.specs.Sizes.{secret_key_bytes, ciphertext_numbers, ciphertext_bytes, shared_key_bytes}
use Rattle.field.specs.Field.{Coefficients}
use Rattle.hash.specs.Fips202.{sha3_256}
use Rattle.lanes.specs.Samplers.{ones}
use Rattle.refusals.specs.declared.Refusal.{Refusal}
use Rattle.refusals.specs.declared.Refusal.TheVariants.{Differs}
use Rattle.packets.specs.Parameters.{payload_bytes}
use Rattle.packets.specs.Packets.{Bytes, payload, public_key, sealing}
use Rattle.packets.specs.Layout.{public_bytes, public_of}
use Rattle.packets.specs.Opening.{Opens, Quiet, Read}
use Rattle.demands.specs.Outcomes.{size, size_mut}
use Rattle.demands.specs.Calls.{Keygen, Enc, EncNumbers, Dec, DecNumbers}

-- a payload whose sealing under the key's own public key is this ciphertext, and which is what extraction reads from embed(payload) + b·c - d·a
abbrev pub Payload : List ℕ → List ℕ → Type 0
Payload sk ct = (m : List ℕ) × Opens ones sk ct m

-- opening `ct` with the secret key `sk` answers so, and what the 32 lent bytes hold goes from `before` to `after`
pub record Opening (sk ct : List ℕ) (answer : Result ⊤ Refusal) (before after : List ℕ) : Type 0 where
  -- it gives a key exactly when such a payload exists
  pub exactly : (answer ≡ Ok tt) ↔ Payload sk ct
  -- there is then only one
  pub only_one : (m n : List ℕ) → Opens ones sk ct m → Opens ones sk ct n → m ≡ n
  -- and the key is its SHA3-256
  pub its_key : (m : List ℕ) → Opens ones sk ct m → after ≡ sha3_256 m
  -- otherwise the answer is refusal 3, and the buffer is what it was
  pub otherwise : (Payload sk ct → ⊥) → (answer ≡ Err Differs) × (after ≡ before)

pub record Demand3 : Type 0 where
  -- with the ciphertext in bytes, and as numbers
  pub dec : (o : Dec) → size o.lent.0 ≡ secret_key_bytes → size o.lent.1.0 ≡ ciphertext_bytes
      → Coefficients ciphertext_numbers (words o.lent.1.0.now) → size_mut o.lent.1.1.0 ≡ shared_key_bytes
      → Opening o.lent.0.now (words o.lent.1.0.now) o.answer o.lent.1.1.0.now o.after.1.1.0.now
  pub dec_numbers : (o : DecNumbers) → size o.lent.0 ≡ secret_key_bytes → Coefficients ciphertext_numbers o.lent.1.0.now
      → size_mut o.lent.1.1.0 ≡ shared_key_bytes
      → Opening o.lent.0.now o.lent.1.0.now o.answer o.lent.1.1.0.now o.after.1.1.0.now
  -- the second condition always holds if each coefficient of b·c - d·a is congruent modulo p to e0 + 2^16 e1 + 2^32 e2 + 2^48 e3 with every e
  -- from -16381 to 16381
  pub small : (sk m : List ℕ) → Bytes payload_bytes m → Quiet ones sk m → Read ones sk m
  -- `enc` writes the sealing of its payload under the public key that it is lent, and the payload's SHA3-256
  pub seals : (e : Enc) → e.answer ≡ Ok tt
      → (e.after.1.1.0.now ≡ sha3_256 (payload e.lent.1.0.now))
      × (e.after.1.1.1.0.now ≡ bytes (sealing ones (public_of e.lent.0.now) (payload e.lent.1.0.now)))
  pub seals_numbers : (e : EncNumbers) → e.answer ≡ Ok tt
      → (e.after.1.1.0.now ≡ sha3_256 (payload e.lent.1.0.now))
      × (e.after.1.1.1.0.now ≡ sealing ones (public_of e.lent.0.now) (payload e.lent.1.0.now))
  -- so what `enc` writes for the key opens, with such noise, to the shared key that it gave its sealer,
  pub arrives : (e : Enc) (d : Dec) → e.answer ≡ Ok tt → e.lent.0.now ≡ public_bytes (public_key ones d.lent.0.now)
      → size d.lent.0 ≡ secret_key_bytes → d.lent.1.0.now ≡ e.after.1.1.1.0.now → size_mut d.lent.1.1.0 ≡ shared_key_bytes
      → Quiet ones d.lent.0.now (payload e.lent.1.0.now)
      → (d.answer ≡ Ok tt) × (d.after.1.1.0.now ≡ e.after.1.1.0.now)
  pub arrives_numbers : (e : EncNumbers) (d : DecNumbers) → e.answer ≡ Ok tt → e.lent.0.now ≡ public_bytes (public_key ones d.lent.0.now)
      → size d.lent.0 ≡ secret_key_bytes → d.lent.1.0.now ≡ e.after.1.1.1.0.now → size_mut d.lent.1.1.0 ≡ shared_key_bytes
      → Quiet ones d.lent.0.now (payload e.lent.1.0.now)
      → (d.answer ≡ Ok tt) × (d.after.1.1.0.now ≡ e.after.1.1.0.now)
  -- and `keygen` writes a secret key and that key's own public key
  pub own_public_key : (k : Keygen) → k.answer ≡ Ok tt
      → (size_mut k.after.1.0 ≡ secret_key_bytes) × (k.after.1.1.0.now ≡ public_bytes (public_key ones k.after.1.0.now))
