-- docs/SCHEME.md, "The job program": what is answered to the bytes of one job, and what a lent buffer then holds.
use Rattle.std.specs.Prelude.{Bool, false, ◌≡◌, List, [], ◌∷◌, ◌++◌, ℕ, ◌+◌, eqb, leb, length, get_or, drop}
use Rattle.codec.specs.Layout.{words, bytes}
use Rattle.codec.specs.Sizes.{secret_key_bytes, public_key_bytes, ciphertext_bytes, shared_key_bytes, randomness_bytes}
use Rattle.laws.specs.Choices.{pick}
use Rattle.laws.specs.Lists.{part}
use Rattle.refusals.specs.Judgement.{Told, No, sign, gives, refuses, fine}
use Rattle.refusals.specs.Answers.{tells}
use Rattle.lanes.specs.Samplers.{ones}
use Rattle.packets.specs.Packets.{KeyPair, Packet, Opened, key_or}
use Rattle.packets.specs.Packets as packets
use Rattle.packets.specs.Layout.{public_bytes, public_of}
use Rattle.refusals.specs.Asks as asks
use Rattle.kem_calls.specs.Verdict.{verdict}

-- a refusal: number, argument, place as eight little-endian bytes
unfoldable pub ten : No → List ℕ
ten r = r.number ∷ ((r.argument ∷ []) ++ bytes (r.place ∷ []))

-- byte 0 and then what is given, or the refusal
unfoldable pub written : Told → List ℕ → List ℕ
written (gives xs) out = 0 ∷ out
written (refuses r) out = ten r

-- how long an answer can be (`answer-size` of proofs/Sizes): that of a sealing
abbrev pub longest_answer : ℕ
longest_answer = 1 + shared_key_bytes + ciphertext_bytes

-- ---- the answers of the three kinds
-- of randomness: secret and public key
unfoldable pub keygen_answer : List ℕ → List ℕ
keygen_answer r =
    let k = packets.keygen ones r in
    written (tells (asks.keygen (length r) secret_key_bytes public_key_bytes) fine) (k.secret ++ public_bytes k.public)

-- of a public key and randomness: shared key and ciphertext
unfoldable pub enc_answer : List ℕ → List ℕ → List ℕ
enc_answer pk r =
    let e = packets.enc ones (public_of pk) r in
    written (tells (asks.enc pk (length r) shared_key_bytes ciphertext_bytes) fine) (e.shared ++ bytes e.ciphertext)

-- of a secret key and a ciphertext: the shared key
unfoldable pub dec_answer : List ℕ → List ℕ → List ℕ
dec_answer sk ct =
    let o = packets.dec ones sk (words ct) in
    written (tells (asks.dec (length sk) ct shared_key_bytes) (verdict o)) (key_or o [])

-- ---- the job
-- how long a job of each kind is, the last being the longest
abbrev pub keygen_job_bytes : ℕ
keygen_job_bytes = 1 + randomness_bytes

abbrev pub enc_job_bytes : ℕ
enc_job_bytes = 1 + public_key_bytes + randomness_bytes

abbrev pub dec_job_bytes : ℕ
dec_job_bytes = 1 + secret_key_bytes + ciphertext_bytes

-- n bytes, the first of them t
unfoldable pub is_job : ℕ → ℕ → List ℕ → Bool
is_job t n s = pick (eqb (length s) n) (eqb (get_or s 0 0) t) false

-- byte 1 and randomness; byte 2, a public key and randomness; byte 3, a secret key and a ciphertext; all else is number 5
unfoldable pub job_answer : List ℕ → List ℕ
job_answer s =
    pick (is_job 1 keygen_job_bytes s) (keygen_answer (part 1 randomness_bytes s))
    (pick (is_job 2 enc_job_bytes s) (enc_answer (part 1 public_key_bytes s) (part (1 + public_key_bytes) randomness_bytes s))
    (pick (is_job 3 dec_job_bytes s) (dec_answer (part 1 secret_key_bytes s) (part (1 + secret_key_bytes) ciphertext_bytes s))
    (ten (sign 5 0 0))))

-- ---- the buffer
-- an answer at the front of a buffer, where it fits; what is behind it stays
unfoldable pub fitted : List ℕ → List ℕ → List ℕ
fitted answer old = pick (leb (length answer) (length old)) (answer ++ drop (length answer) old) old

-- n is the answer's length, and a lent buffer goes from old to new
pub record Writes (answer : List ℕ) (n : ℕ) (old new : List ℕ) : Type 0 where
  pub count : n ≡ length answer
  pub buffer : new ≡ fitted answer old
