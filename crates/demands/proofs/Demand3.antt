-- DEMAND 3: `demand_3`. What `opening` of packets says of the definition `dec`, taken to the calls by their contracts.
use mathlib.Core.Path.{◌≡◌, refl, sym, ap, ◌∙◌}
use mathlib.Core.List.{List, [], ◌∷◌}
use mathlib.Core.Logic.{◌⊎◌, inl, inr}
use Prim.Native.Nat.{ℕ}
use native.Mathlib.Omega.{arith}
use lib.ListN.{length}
use Rattle.codec.specs.Layout.{words, bytes}
use Rattle.codec.specs.Sizes.{secret_key_bytes, ciphertext_numbers, ciphertext_bytes}
use Rattle.codec.proofs.Layouts.{length-bytes}
use Rattle.field.specs.Field.{Coefficients}
use Rattle.lanes.specs.Samplers.{ones}
use Rattle.refusals.specs.Arguments.{Asked, Each}
use Rattle.refusals.specs.Judgement.{sign}
use Rattle.refusals.specs.Answers.{said, into, left, Call}
use Rattle.refusals.specs.declared.Refusal.{Refusal}
use Rattle.std.specs.Prelude.{Result, Ok, Err, ⊤}
use Rattle.refusals.specs.declared.Refusal.TheVariants.{Differs}
use Rattle.packets.specs.Packets.{sealing, PublicKey, Opened, key, differs, opens, key_or, payload, public_key, keygen, enc, dec}
use Rattle.packets.specs.Layout.{public_bytes, public_of}
use Rattle.packets.specs.Opening.{Opens, Quiet, Opening as Of-dec}
use Rattle.hash.specs.Fips202.{sha3_256}
use Rattle.packets.proofs.Opening.{opening, quiet_read}
use Rattle.packets.proofs.Delivery.{secret_key_is_bytes, ciphertext-canonical, keygen-public, numbers_open, words_back, bytes_open}
use Rattle.kem_calls.specs.Verdict.{verdict}
use Rattle.demands.specs.Demand3.{Payload, Opening, Demand3}
use Rattle.demands.proofs.Table.{gives-refuses}
use Rattle.demands.proofs.Ends.{said_done, said-differs, first-buffer, second-buffer, as_given, buffers-given, done_clean}

-- ---- the two ends of opening, from what `dec` is
module _ (o : Opened) (r : Result ⊤ Refusal) (old new : List ℕ) (told : said r ≡ verdict o)
    (held : (new ∷ []) ≡ left (verdict o) (into old (key_or o old) ∷ [])) where
  -- what the buffer holds, of any of the two that `dec` may give
  abbrev left_by : Opened → List (List ℕ)
  left_by p = left (verdict p) (into old (key_or p old) ∷ [])

  gives_key : (k : List ℕ) → o ≡ key k → (r ≡ Ok tt) × (new ≡ k)
  unfolding verdict opens key_or
  gives_key k e = (said_done r (told ∙ ap verdict e), first-buffer _ _ (held ∙ ap left_by e))

  gives_none : o ≡ differs → (r ≡ Err Differs) × (new ≡ old)
  unfolding verdict opens key_or
  gives_none e = (said-differs r (told ∙ ap verdict e), first-buffer _ _ (held ∙ ap left_by e))

one_or_other : (o : Opened) → ((k : List ℕ) × (o ≡ key k)) ⊎ (o ≡ differs)
one_or_other (key k) = inl (k, refl)
one_or_other differs = inr refl

done_refused : {A : Type 0} (r : Result ⊤ Refusal) → r ≡ Ok tt → r ≡ Err Differs → A
done_refused r d e = gives-refuses [] (sign 3 0 0) (ap said (sym d ∙ e))

opened : (sk ct : List ℕ) (r : Result ⊤ Refusal) (old new : List ℕ) → length ct ≡ ciphertext_numbers → said r ≡ verdict (dec ones sk ct)
    → (new ∷ []) ≡ left (verdict (dec ones sk ct)) (into old (key_or (dec ones sk ct) old) ∷ []) → Opening sk ct r old new
opened sk ct r old new size told held = record {
  exactly = ((λ d. payload_of d (one_or_other (dec ones sk ct))), (λ p. (key_of p.0 p.1).0));
  only_one = whole.only_one;
  its_key = λ m o. (key_of m o).1;
  otherwise = λ none. no_payload none (one_or_other (dec ones sk ct));
}
  where
    whole : Of-dec ones sk ct
    whole = opening ones sk ct size

    key_of : (m : List ℕ) → Opens ones sk ct m → (r ≡ Ok tt) × (new ≡ sha3_256 m)
    key_of m o = gives_key (dec ones sk ct) r old new told held _ (whole.its_key m o)

    payload_of : r ≡ Ok tt → ((k : List ℕ) × (dec ones sk ct ≡ key k)) ⊎ (dec ones sk ct ≡ differs) → Payload sk ct
    payload_of d (inl w) = whole.exactly.0 w
    payload_of d (inr e) = done_refused r d (gives_none (dec ones sk ct) r old new told held e).0

    no_payload : (Payload sk ct → ⊥) → ((k : List ℕ) × (dec ones sk ct ≡ key k)) ⊎ (dec ones sk ct ≡ differs) → (r ≡ Err Differs) × (new ≡ old)
    no_payload none (inl w) = absurd (none (whole.exactly.0 w))
    no_payload none (inr e) = gives_none (dec ones sk ct) r old new told held e

-- ---- a call that opens, with every argument as asked
module _ (args : List Asked) (sk ct : List ℕ) (r : Result ⊤ Refusal) (old new : List ℕ) (each : Each args)
    (call : Call args (verdict (dec ones sk ct)) (said r) (into old (key_or (dec ones sk ct) old) ∷ []) (new ∷ [])) where
  told_so : said r ≡ verdict (dec ones sk ct)
  told_so = as_given args (verdict (dec ones sk ct)) (said r) _ _ each call

  held_so : (new ∷ []) ≡ left (verdict (dec ones sk ct)) (into old (key_or (dec ones sk ct) old) ∷ [])
  held_so = buffers-given args (verdict (dec ones sk ct)) (said r) _ _ each call

  opened_call : length ct ≡ ciphertext_numbers → Opening sk ct r old new
  opened_call size = opened sk ct r old new size told_so held_so

  key_call : (k : List ℕ) → dec ones sk ct ≡ key k → (r ≡ Ok tt) × (new ≡ k)
  key_call = gives_key (dec ones sk ct) r old new told_so held_so

-- ---- a packet that `enc` wrote
ciphertext_sizes : (pk : PublicKey) (r ct : List ℕ) → ct ≡ bytes (enc ones pk r).ciphertext
    → (length ct ≡ ciphertext_bytes) × Coefficients ciphertext_numbers (words ct)
ciphertext_sizes pk r ct e =
    let c = ciphertext-canonical ones pk r in
    let size = length-bytes (enc ones pk r).ciphertext in
    let as_written : length ct ≡ length (bytes (enc ones pk r).ciphertext) = ap length e in
    (omega (arith, as_written, size, c.size), rw (e, words_back ones pk r) c)

numbers_sizes : (pk : PublicKey) (r ct : List ℕ) → ct ≡ (enc ones pk r).ciphertext → Coefficients ciphertext_numbers ct
numbers_sizes pk r ct e = rw e (ciphertext-canonical ones pk r)

module _ (sk pk r ct shared : List ℕ) (size : length sk ≡ secret_key_bytes) (own : pk ≡ public_bytes (public_key ones sk))
    (shared-is : shared ≡ (enc ones (public_of pk) r).shared) (quiet : Quiet ones sk (payload r)) where
  bytes-key : ct ≡ bytes (enc ones (public_of pk) r).ciphertext → dec ones sk (words ct) ≡ key shared
  bytes-key e = rw (e, shared-is, own) (bytes_open ones sk r size quiet)

  numbers-key : ct ≡ (enc ones (public_of pk) r).ciphertext → dec ones sk ct ≡ key shared
  numbers-key e = rw (e, shared-is, own) (numbers_open ones sk r size quiet)

own_key : (r secret public : List ℕ) → secret ≡ (keygen ones r).secret → public ≡ public_bytes (keygen ones r).public
    → public ≡ public_bytes (public_key ones secret)
own_key r secret public e f = f ∙ rw (e, ← keygen-public ones r)

own_size : (r secret : List ℕ) → secret ≡ (keygen ones r).secret → length secret ≡ secret_key_bytes
unfolding keygen
own_size r secret e = ap length e ∙ (secret_key_is_bytes r).size

-- what `enc` writes, by its definition
sealed_is : (pk : PublicKey) (r ct : List ℕ) → ct ≡ (enc ones pk r).ciphertext → ct ≡ sealing ones pk (payload r)
unfolding enc
sealed_is pk r ct e = e

sealed-bytes : (pk : PublicKey) (r ct : List ℕ) → ct ≡ bytes (enc ones pk r).ciphertext → ct ≡ bytes (sealing ones pk (payload r))
unfolding enc
sealed-bytes pk r ct e = e

shared_is_hash : (pk : PublicKey) (r shared : List ℕ) → shared ≡ (enc ones pk r).shared → shared ≡ sha3_256 (payload r)
unfolding enc
shared_is_hash pk r shared e = e

pub demand_3 : Demand3
demand_3 = record {
  dec = λ o a b c d. opened_call _ _ _ _ _ _ (a, ((b, c), (d, record {}))) o.allowed c.size;
  dec_numbers = λ o a c d. opened_call _ _ _ _ _ _ (a, (c, (d, record {}))) o.allowed c.size;
  small = quiet_read ones;
  seals = λ e done.
      let wrote = (done_clean _ _ _ _ done e.allowed).1 in
      (shared_is_hash _ _ _ (first-buffer _ _ wrote), sealed-bytes _ _ _ (second-buffer _ _ wrote));
  seals_numbers = λ e done.
      let wrote = (done_clean _ _ _ _ done e.allowed).1 in
      (shared_is_hash _ _ _ (first-buffer _ _ wrote), sealed_is _ _ _ (second-buffer _ _ wrote));
  arrives = λ e d done own size same room quiet.
      let wrote = (done_clean _ _ _ _ done e.allowed).1 in
      let packet = same ∙ second-buffer _ _ wrote in
      let sizes = ciphertext_sizes _ _ _ packet in
      key_call _ _ _ _ _ _ (size, ((sizes.0, sizes.1), (room, record {}))) d.allowed _
      (bytes-key _ _ _ _ _ size own (first-buffer _ _ wrote) quiet packet);
  arrives_numbers = λ e d done own size same room quiet.
      let wrote = (done_clean _ _ _ _ done e.allowed).1 in
      let packet = same ∙ second-buffer _ _ wrote in
      key_call _ _ _ _ _ _ (size, (numbers_sizes _ _ _ packet, (room, record {}))) d.allowed _
      (numbers-key _ _ _ _ _ size own (first-buffer _ _ wrote) quiet packet);
  own_public_key = λ k d.
      let done = done_clean _ _ _ _ d k.allowed in
      (own_size _ _ (first-buffer _ _ done.1), own_key _ _ _ (first-buffer _ _ done.1) (second-buffer _ _ done.1));
}
