-- How long an answer is.
use mathlib.Core.Bool.{Bool, true, false}
use mathlib.Core.Path.{◌≡◌, ap, ◌∙◌}
use mathlib.Core.List.{List, [], ◌∷◌, ◌++◌}
use Prim.Native.Nat.{ℕ, suc, ◌+◌, ◌*◌, ◌≤◌}
use native.Mathlib.Omega.{arith}
use lib.Dec.{lit<}
use lib.ListN.{length, length-append}
use Rattle.codec.specs.Layout.{words, bytes}
use Rattle.codec.specs.Sizes.{secret_key_bytes, public_key_bytes, ciphertext_bytes, ciphertext_numbers, shared_key_bytes}
use Rattle.codec.proofs.Layouts.{length-bytes}
use Rattle.laws.specs.Choices.{pick}
use Rattle.laws.specs.Lists.{part}
use Rattle.refusals.specs.Judgement.{Told, No, sign, gives, refuses}
use Rattle.hash.specs.Fips202.{sha3_256}
use Rattle.hash.proofs.Outputs.{length_sha3_256}
use Rattle.lanes.specs.Samplers.{ones}
use Rattle.packets.specs.Packets.{key, differs, key_or, same, sealing, extracted, payload, secret_key, public_key, PublicKey, keygen, enc, dec}
use Rattle.packets.specs.Layout.{public_bytes, public_of}
use Rattle.packets.proofs.Canonical.{part_below, public-canonical}
use Rattle.packets.proofs.Delivery.{secret_key_is_bytes, ciphertext-canonical}
use Rattle.job_calls.specs.Jobs.{ten, written, keygen_job_bytes, enc_job_bytes, dec_job_bytes, longest_answer}
use Rattle.job_calls.specs.Jobs.{is_job, keygen_answer, enc_answer, dec_answer, job_answer}

ten-size : (r : No) → length (ten r) ≡ 10
unfolding ten
ten-size r = ap (λ (n : ℕ). suc (suc n)) (length-bytes (r.place ∷ []))

-- no answer is longer than byte 0 and n bytes, for an n of 9 or more
written-size : (t : Told) (out : List ℕ) (n : ℕ) → 9 ≤ n → length out ≤ n → length (written t out) ≤ suc n
unfolding written
written-size (gives xs) out n h e = omega arith
written-size (refuses r) out n h e = omega (arith, ten-size r)

keys_size : (r : List ℕ) → length ((keygen ones r).secret ++ public_bytes (keygen ones r).public) ≡ secret_key_bytes + public_key_bytes
unfolding keygen public_key public_bytes
keys_size r =
    let sk = secret_key r in
    let s : length (part 32 32 sk) ≡ 32 = (part_below 256 32 32 64 sk (lit< tt) (omega arith) (secret_key_is_bytes r)).size in
    let g : length (bytes (public_key ones sk).ga) ≡ 2048 = length-bytes _ ∙ ap (λ (n : ℕ). 8 * n) (public-canonical ones sk).size in
    length-append sk _ ∙ omega (arith, (secret_key_is_bytes r).size, length-append (part 32 32 sk) (bytes (public_key ones sk).ga), s, g)

packet_size : (pk : PublicKey) (r : List ℕ)
    → length ((enc ones pk r).shared ++ bytes (enc ones pk r).ciphertext) ≡ shared_key_bytes + ciphertext_bytes
unfolding enc
packet_size pk r =
    let numbers = (ciphertext-canonical ones pk r).size in
    let c : length (bytes (enc ones pk r).ciphertext) ≡ ciphertext_bytes = length-bytes _ ∙ ap (λ (n : ℕ). 8 * n) numbers in
    length-append (enc ones pk r).shared _ ∙ omega (arith, length_sha3_256 (payload r), c)

key-size : (b : Bool) (m : List ℕ) → length (key_or (pick b (key (sha3_256 m)) differs) []) ≤ shared_key_bytes
unfolding key_or
key-size true m = omega (arith, length_sha3_256 m)
key-size false m = omega arith

opened_size : (sk ct : List ℕ) → length (key_or (dec ones sk ct) []) ≤ shared_key_bytes
unfolding dec
opened_size sk ct = key-size (same ciphertext_numbers (sealing ones (public_key ones sk) (extracted ones sk ct)) ct) (extracted ones sk ct)

keygen-size : (r : List ℕ) → length (keygen_answer r) ≤ longest_answer
unfolding keygen_answer
keygen-size r = written-size _ _ (shared_key_bytes + ciphertext_bytes) (omega arith) (omega (arith, keys_size r))

enc-size : (pk r : List ℕ) → length (enc_answer pk r) ≤ longest_answer
unfolding enc_answer
enc-size pk r = written-size _ _ (shared_key_bytes + ciphertext_bytes) (omega arith) (omega (arith, packet_size (public_of pk) r))

dec-size : (sk ct : List ℕ) → length (dec_answer sk ct) ≤ longest_answer
unfolding dec_answer
dec-size sk ct = written-size _ _ (shared_key_bytes + ciphertext_bytes) (omega arith) (omega (arith, opened_size sk (words ct)))

pick-size : (b : Bool) (s t : List ℕ) (n : ℕ) → length s ≤ n → length t ≤ n → length (pick b s t) ≤ n
pick-size true s t n h k = h
pick-size false s t n h k = k

-- no answer has more than 2,593 bytes
pub answer-size : (s : List ℕ) → length (job_answer s) ≤ longest_answer
unfolding job_answer
answer-size s =
    pick-size (is_job 1 keygen_job_bytes s) _ _ longest_answer (keygen-size _)
    (pick-size (is_job 2 enc_job_bytes s) _ _ longest_answer (enc-size _ _)
    (pick-size (is_job 3 dec_job_bytes s) _ _ longest_answer (dec-size _ _) (omega (arith, ten-size (sign 5 0 0)))))
