-- What is told of a job: number 5 exactly when it is none, and else what its call tells.
use mathlib.Core.Bool.{Bool, true, false}
use mathlib.Core.Path.{◌≡◌, refl, sym, ap, ◌∙◌}
use mathlib.Core.List.{List, [], ◌∷◌, ◌++◌, append-nil}
use mathlib.Core.Logic.{◌↔◌, inl, inr}
use Prim.Native.Nat.{ℕ, ◌+◌, ◌≤◌, ◌<◌}
use native.Mathlib.Omega.{arith}
use lib.ListN.{length, get_or, take, drop}
use lib.Seq.{take_at}
use borrow.Author.Tests.{eqb-true, eq-eqb}
use Rattle.laws.specs.Lists.{part}
use Rattle.codec.specs.Sizes.{secret_key_bytes, public_key_bytes, ciphertext_bytes, shared_key_bytes, randomness_bytes}
use Rattle.codec.specs.Layout.{words, bytes}
use Rattle.lanes.specs.Samplers.{ones}
use Rattle.packets.specs.Layout.{public_bytes, public_of}
use Rattle.refusals.specs.Asks as asks
use Rattle.refusals.specs.Arguments.{Asked}
use Rattle.refusals.specs.Judgement.{Told, sign, gives, refuses, fine, then, judged}
use Rattle.refusals.specs.Exactly.{OneOfThree}
use Rattle.refusals.specs.Answers.{into, left, tells, Call}
use Rattle.refusals.proofs.Exactly.{one_of_three}
use Rattle.packets.specs.Packets.{Opened, key, differs, opens, key_or, keygen, enc, dec}
use Rattle.kem_calls.specs.Verdict.{verdict}
use Rattle.job_calls.specs.Jobs.{keygen_job_bytes, enc_job_bytes, dec_job_bytes, is_job, ten, written, Writes}
use Rattle.job_calls.specs.Jobs.{keygen_answer, enc_answer, dec_answer, job_answer}
use Rattle.job_calls.proofs.Choices.{both_true}
use Rattle.job_calls.proofs.Fronts.{fitted_yes, fitted_no, two_filled, one_filled, key-written}
use Rattle.demands.specs.Table.{IsJob, NoJob}
use Rattle.demands.proofs.Table.{number_of}

-- ---- whether it is a job
true_job : (t n : ℕ) (s : List ℕ) → is_job t n s ≡ true → IsJob t n s
unfolding is_job
true_job t n s e = let h = both_true _ _ e in (eqb-true (length s) n h.0, eqb-true (get_or s 0 0) t h.1)

job_true : (t n : ℕ) (s : List ℕ) → IsJob t n s → is_job t n s ≡ true
unfolding is_job
job_true t n s j = rw (eq-eqb (length s) n j.0, eq-eqb (get_or s 0 0) t j.1)

job_false : (t n : ℕ) (s : List ℕ) → (IsJob t n s → ⊥) → is_job t n s ≡ false
job_false t n s h = go (is_job t n s) refl
  where
    go : (b : Bool) → is_job t n s ≡ b → is_job t n s ≡ false
    go true e = absurd (h (true_job t n s e))
    go false e = e

-- ---- its answer
module _ (s : List ℕ) where
  other : (t u m n : ℕ) → (t ≡ u → ⊥) → IsJob t m s → is_job u n s ≡ false
  other t u m n h j = job_false u n s (λ k. h (sym j.1 ∙ k.1))

  pub keygen_kind : IsJob 1 keygen_job_bytes s → job_answer s ≡ keygen_answer (part 1 randomness_bytes s)
  unfolding job_answer
  keygen_kind j = rw (job_true 1 keygen_job_bytes s j)

  pub enc_kind : IsJob 2 enc_job_bytes s
      → job_answer s ≡ enc_answer (part 1 public_key_bytes s) (part (1 + public_key_bytes) randomness_bytes s)
  unfolding job_answer
  enc_kind j = rw (other 2 1 enc_job_bytes keygen_job_bytes (λ e. absurd (omega (arith, e))) j, job_true 2 enc_job_bytes s j)

  pub dec_kind : IsJob 3 dec_job_bytes s
      → job_answer s ≡ dec_answer (part 1 secret_key_bytes s) (part (1 + secret_key_bytes) ciphertext_bytes s)
  unfolding job_answer
  dec_kind j =
      rw (
        other 3 1 dec_job_bytes keygen_job_bytes (λ e. absurd (omega (arith, e))) j,
        other 3 2 dec_job_bytes enc_job_bytes
            (λ e. absurd (omega (arith, e))) j,
        job_true 3 dec_job_bytes s j,
      )

  no_kind : NoJob s → job_answer s ≡ ten (sign 5 0 0)
  unfolding job_answer
  no_kind h =
      rw (job_false 1 keygen_job_bytes s h.no_keygen, job_false 2 enc_job_bytes s h.no_enc, job_false 3 dec_job_bytes s h.no_dec)

-- ---- the first byte is the number
abbrev head : List ℕ → ℕ
head l = get_or l 0 0

first_byte : (t : Told) (out : List ℕ) → head (written t out) ≡ number_of t
unfolding written ten
first_byte (gives xs) out = refl
first_byte (refuses n) out = refl

tells-number : (args : List Asked) (given : Told) → number_of given ≤ 4 → number_of (tells args given) ≤ 4
tells-number args given h = go (one_of_three args)
  where
    told : (t : Told) → judged args ≡ t → number_of (then t given) ≤ 4 → number_of (tells args given) ≤ 4
    told t e l = rw e l

    go : OneOfThree args → number_of (tells args given) ≤ 4
    go (inl w) = told _ w.1 (omega arith)
    go (inr (inl w)) = told _ w.2 (omega arith)
    go (inr (inr e)) = told _ e h

verdict-number : (o : Opened) → number_of (verdict o) ≤ 4
unfolding verdict opens
verdict-number (key k) = omega arith
verdict-number differs = omega arith

written-number : (args : List Asked) (given : Told) (out : List ℕ) → number_of given ≤ 4 → head (written (tells args given) out) ≤ 4
written-number args given out h = rw (first_byte (tells args given) out) (tells-number args given h)

keygen_head : (r : List ℕ) → head (keygen_answer r) ≤ 4
unfolding keygen_answer
keygen_head r = written-number _ fine _ (omega arith)

enc_head : (pk r : List ℕ) → head (enc_answer pk r) ≤ 4
unfolding enc_answer
enc_head pk r = written-number _ fine _ (omega arith)

dec_head : (sk ct : List ℕ) → head (dec_answer sk ct) ≤ 4
unfolding dec_answer
dec_head sk ct = written-number _ _ _ (verdict-number _)

five : head (ten (sign 5 0 0)) ≡ 5
unfolding ten
five = refl

clash : (a answer : List ℕ) → answer ≡ a → head a ≤ 4 → answer ≡ ten (sign 5 0 0) → ⊥
clash a answer e l f = let q : head a ≡ 5 = ap head (sym e ∙ f) ∙ five in absurd (omega (arith, l, q))

pub five_when : (s : List ℕ) → (job_answer s ≡ ten (sign 5 0 0)) ↔ NoJob s
five_when s = (
  (λ e. record {
    no_keygen = λ j. clash _ (job_answer s) (keygen_kind s j) (keygen_head _) e;
    no_enc = λ j. clash _ (job_answer s) (enc_kind s j) (enc_head _ _) e;
    no_dec = λ j. clash _ (job_answer s) (dec_kind s j) (dec_head _ _) e;
  }),
  no_kind s,
)

-- ---- what is written, where there is room for any answer
pub front : (s old new : List ℕ) (n : ℕ) → n ≤ length old → Writes (job_answer s) n old new → take n new ≡ job_answer s
front s old new n h w =
    let a = job_answer s in
    let fits : length a ≤ length old = omega (arith, h, w.count) in
    rw (w.count, w.buffer, ← fitted_yes a old fits) (take_at a (drop (length a) old) (length a) refl)

pub no_room_left : (s old new : List ℕ) (n : ℕ) → length old < n → Writes (job_answer s) n old new → new ≡ old
no_room_left s old new n h w = w.buffer ∙ sym (fitted_no (job_answer s) old (omega (arith, h, w.count)))

-- ---- and the answer of a job is what its call answers
key_filled : (t u : Told) (o : Opened) (old new : List ℕ) → u ≡ then t (verdict o)
    → new ∷ [] ≡ left (then t (verdict o)) (into old (key_or o old) ∷ []) → written u new ≡ written (then t (verdict o)) (key_or o [])
key_filled t u o old new e f =
    ap (written u) (sym (append-nil new)) ∙ one_filled (then t (verdict o)) u (into old (key_or o old)) new e f ∙ key-written t o old []

pub keygen_as : (r r' : List ℕ) (s p : ℕ) (a : Told) (old old' new new' : List ℕ) → r' ≡ r → s ≡ secret_key_bytes → p ≡ public_key_bytes
    → Call (asks.keygen (length r') s p) fine a
    (into old (keygen ones r').secret ∷ into old' (public_bytes (keygen ones r').public) ∷ []) (new ∷ new' ∷ [])
    → keygen_answer r ≡ written a (new ++ new')
unfolding keygen_answer
keygen_as r r' s p a old old' new new' e f g c =
    sym (λ i. written (tells (asks.keygen (length (e i)) (f i) (g i)) fine) ((keygen ones (e i)).secret ++ public_bytes (keygen ones (e i)).public))
    ∙ sym (two_filled _ a (into old _) (into old' _) new new' c.answered c.buffers)

pub enc_as : (pk pk' r r' : List ℕ) (s t : ℕ) (a : Told) (old old' new new' : List ℕ) → pk' ≡ pk → r' ≡ r
    → s ≡ shared_key_bytes → t ≡ ciphertext_bytes
    → Call (asks.enc pk' (length r') s t) fine a
    (into old (enc ones (public_of pk') r').shared ∷ into old' (bytes (enc ones (public_of pk') r').ciphertext) ∷ []) (new ∷ new' ∷ [])
    → enc_answer pk r ≡ written a (new ++ new')
unfolding enc_answer
enc_as pk pk' r r' s t a old old' new new' d e f g c =
    sym (λ i. written (tells (asks.enc (d i) (length (e i)) (f i) (g i)) fine)
    ((enc ones (public_of (d i)) (e i)).shared ++ bytes (enc ones (public_of (d i)) (e i)).ciphertext))
    ∙ sym (two_filled _ a (into old _) (into old' _) new new' c.answered c.buffers)

pub dec_as : (sk sk' ct ct' : List ℕ) (s : ℕ) (a : Told) (old new : List ℕ) → sk' ≡ sk → ct' ≡ ct → s ≡ shared_key_bytes
    → Call (asks.dec (length sk') ct' s) (verdict (dec ones sk' (words ct'))) a (into old (key_or (dec ones sk' (words ct')) old) ∷ []) (new ∷ [])
    → dec_answer sk ct ≡ written a new
unfolding dec_answer
dec_as sk sk' ct ct' s a old new d e f c =
    sym (λ i. written (tells (asks.dec (length (d i)) (e i) (f i)) (verdict (dec ones (d i) (words (e i)))))
    (key_or (dec ones (d i) (words (e i))) []))
    ∙ sym (key_filled (judged (asks.dec (length sk') ct' s)) a (dec ones sk' (words ct')) old new c.answered c.buffers)
