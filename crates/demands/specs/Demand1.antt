-- DEMAND 1. Any bytes of any length get an answer and an end. Public calls check lengths and coefficients themselves. A refusal gives number,
-- argument and place, exactly when the table says, and no lent buffer has changed. `demand_1` of proofs/Demand1 proves it.
use Rattle.std.specs.Prelude.{◌≡◌, [], ◌∷◌, ◌++◌, ◌↔◌, ◌+◌, ◌%◌, ◌≤◌, ◌<◌, take}
use Rattle.laws.specs.Lists.{part}
use Rattle.field.specs.Field.{P}
use Rattle.codec.specs.Layout.{words}
use Rattle.codec.specs.Sizes.{secret_key_bytes, public_key_bytes, ciphertext_bytes, shared_key_bytes, randomness_bytes}
use Rattle.refusals.specs.Judgement.{sign}
use Rattle.refusals.specs.Answers.{paper, said, told}
use Rattle.refusals.specs.Asks as asks
use Rattle.job_calls.specs.Jobs.{ten, written, keygen_job_bytes, enc_job_bytes, dec_job_bytes}
use Rattle.demands.specs.Answered.{Answered}
use Rattle.demands.specs.Outcomes.{size, size_mut}
use Rattle.demands.specs.Calls.{FieldValue, FieldAdd, FieldSub, FieldMul, FieldNeg, FieldInverse, FieldModPow, CosetNttNoswap64}
use Rattle.demands.specs.Calls.{CosetInttNoswap64, RingAdd, RingSub, RingMul, MatrixTimesColumn, RowTimesMatrix, RowTimesColumn}
use Rattle.demands.specs.Calls.{SampleShortBfieldElement, SampleShort, SampleUniform, EmbedMsg, ExtractMsg, Shake256, Sha3_256, Keygen}
use Rattle.demands.specs.Calls.{RefusalRecord, FieldNew, Enc, EncNumbers, Dec, DecNumbers, Clear, Job}
use Rattle.demands.specs.Table.{Tabled, never, Differs, IsJob, NoJob}

-- A refusal gives number, argument and place, exactly when the table says, and no lent buffer has changed. The first thing lent is `.0`, the second
-- `.1 .0`, the third `.1 .1 .0`; what each call asks of them is a line of specs/Asks of crate refusals
pub record Refused : Type 0 where
  -- `new` never refuses: it gives the number modulo p
  pub field_new : (o : FieldNew) → o.answer ≡ o.lent.0 % P
  pub field_value : (o : FieldValue) → Tabled (asks.field_value o.lent.0) never never (told o.answer) [] []
  pub field_add : (o : FieldAdd) → Tabled (asks.field_add o.lent.0 o.lent.1.0) never never (told o.answer) [] []
  pub field_sub : (o : FieldSub) → Tabled (asks.field_sub o.lent.0 o.lent.1.0) never never (told o.answer) [] []
  pub field_mul : (o : FieldMul) → Tabled (asks.field_mul o.lent.0 o.lent.1.0) never never (told o.answer) [] []
  pub field_neg : (o : FieldNeg) → Tabled (asks.field_neg o.lent.0) never never (told o.answer) [] []
  pub field_inverse : (o : FieldInverse) → Tabled (asks.field_inverse o.lent.0) never (o.lent.0 ≡ 0) (told o.answer) [] []
  pub field_mod_pow : (o : FieldModPow) → Tabled (asks.field_mod_pow o.lent.0) never never (told o.answer) [] []
  pub coset_ntt_noswap_64 : (o : CosetNttNoswap64) → Tabled (asks.coset_ntt_noswap_64 o.lent.0.now) never never
      (said o.answer) (o.lent.0.now ∷ []) (o.after.0.now ∷ [])
  pub coset_intt_noswap_64 : (o : CosetInttNoswap64) → Tabled (asks.coset_intt_noswap_64 o.lent.0.now) never never
      (said o.answer) (o.lent.0.now ∷ []) (o.after.0.now ∷ [])
  pub ring_add : (o : RingAdd) → Tabled (asks.ring_add o.lent.0.now o.lent.1.0.now (size_mut o.lent.1.1.0)) never never
      (said o.answer) (o.lent.1.1.0.now ∷ []) (o.after.1.1.0.now ∷ [])
  pub ring_sub : (o : RingSub) → Tabled (asks.ring_sub o.lent.0.now o.lent.1.0.now (size_mut o.lent.1.1.0)) never never
      (said o.answer) (o.lent.1.1.0.now ∷ []) (o.after.1.1.0.now ∷ [])
  pub ring_mul : (o : RingMul) → Tabled (asks.ring_mul o.lent.0.now o.lent.1.0.now (size_mut o.lent.1.1.0)) never never
      (said o.answer) (o.lent.1.1.0.now ∷ []) (o.after.1.1.0.now ∷ [])
  pub matrix_times_column : (o : MatrixTimesColumn)
      → Tabled (asks.matrix_times_column o.lent.0.now o.lent.1.0.now (size_mut o.lent.1.1.0))
      never never (said o.answer) (o.lent.1.1.0.now ∷ []) (o.after.1.1.0.now ∷ [])
  pub row_times_matrix : (o : RowTimesMatrix) → Tabled (asks.row_times_matrix o.lent.0.now o.lent.1.0.now (size_mut o.lent.1.1.0))
      never never (said o.answer) (o.lent.1.1.0.now ∷ []) (o.after.1.1.0.now ∷ [])
  pub row_times_column : (o : RowTimesColumn) → Tabled (asks.row_times_column o.lent.0.now o.lent.1.0.now (size_mut o.lent.1.1.0))
      never never (said o.answer) (o.lent.1.1.0.now ∷ []) (o.after.1.1.0.now ∷ [])
  pub sample_short_bfield_element : (o : SampleShortBfieldElement) → Tabled (asks.sample_short_bfield_element (size o.lent.0)) never never
      (told o.answer) [] []
  pub sample_short : (o : SampleShort) → Tabled (asks.sample_short (size o.lent.0) (size_mut o.lent.1.0)) never never
      (said o.answer) (o.lent.1.0.now ∷ []) (o.after.1.0.now ∷ [])
  pub sample_uniform : (o : SampleUniform) → Tabled (asks.sample_uniform (size o.lent.0) (size_mut o.lent.1.0)) never never
      (said o.answer) (o.lent.1.0.now ∷ []) (o.after.1.0.now ∷ [])
  pub embed_msg : (o : EmbedMsg) → Tabled (asks.embed_msg (size o.lent.0) (size_mut o.lent.1.0)) never never
      (said o.answer) (o.lent.1.0.now ∷ []) (o.after.1.0.now ∷ [])
  pub extract_msg : (o : ExtractMsg) → Tabled (asks.extract_msg o.lent.0.now (size_mut o.lent.1.0)) never never
      (said o.answer) (o.lent.1.0.now ∷ []) (o.after.1.0.now ∷ [])
  pub shake256 : (o : Shake256) → Tabled (asks.shake256 (size o.lent.0) (size_mut o.lent.1.0)) never never
      (said o.answer) (o.lent.1.0.now ∷ []) (o.after.1.0.now ∷ [])
  pub sha3_256 : (o : Sha3_256) → Tabled (asks.sha3_256 (size o.lent.0) (size_mut o.lent.1.0)) never never
      (said o.answer) (o.lent.1.0.now ∷ []) (o.after.1.0.now ∷ [])
  pub keygen : (o : Keygen) → Tabled (asks.keygen (size o.lent.0) (size_mut o.lent.1.0) (size_mut o.lent.1.1.0)) never never
      (said o.answer) (o.lent.1.0.now ∷ o.lent.1.1.0.now ∷ []) (o.after.1.0.now ∷ o.after.1.1.0.now ∷ [])
  pub enc : (o : Enc) → Tabled (asks.enc o.lent.0.now (size o.lent.1.0) (size_mut o.lent.1.1.0) (size_mut o.lent.1.1.1.0))
      never never (said o.answer) (o.lent.1.1.0.now ∷ o.lent.1.1.1.0.now ∷ [])
      (o.after.1.1.0.now ∷ o.after.1.1.1.0.now ∷ [])
  pub enc_numbers : (o : EncNumbers)
      → Tabled (asks.enc_numbers o.lent.0.now (size o.lent.1.0) (size_mut o.lent.1.1.0) (size_mut o.lent.1.1.1.0))
      never never (said o.answer) (o.lent.1.1.0.now ∷ o.lent.1.1.1.0.now ∷ [])
      (o.after.1.1.0.now ∷ o.after.1.1.1.0.now ∷ [])
  pub dec : (o : Dec) → Tabled (asks.dec (size o.lent.0) o.lent.1.0.now (size_mut o.lent.1.1.0))
      (Differs o.lent.0.now (words o.lent.1.0.now)) never (said o.answer) (o.lent.1.1.0.now ∷ [])
      (o.after.1.1.0.now ∷ [])
  pub dec_numbers : (o : DecNumbers) → Tabled (asks.dec_numbers (size o.lent.0) o.lent.1.0.now (size_mut o.lent.1.1.0))
      (Differs o.lent.0.now o.lent.1.0.now) never (said o.answer) (o.lent.1.1.0.now ∷ []) (o.after.1.1.0.now ∷ [])
  pub clear : (o : Clear) → Tabled (asks.clear (size_mut o.lent.0)) never never (said o.answer) (o.lent.0.now ∷ []) (o.after.0.now ∷ [])
  -- number, argument and place are what the refusal's record holds
  pub record_is : (o : RefusalRecord) → sign o.answer.number o.answer.argument o.answer.place ≡ paper o.lent.0
  -- a job's refusal is its answer, and goes to the lent output. It is judged by number 5 first: ten bytes, exactly when this is no job
  pub exactly_5 : (o : Job) → o.answer ≤ size_mut o.lent.1.0
      → (take o.answer o.after.1.0.now ≡ ten (sign 5 0 0)) ↔ NoJob o.lent.0.now
  -- any other gets what its call answers: byte 0 and what the call left in its buffers, or the ten bytes of the call's refusal
  pub keygen_job : (o : Job) (k : Keygen) → o.answer ≤ size_mut o.lent.1.0 → IsJob 1 keygen_job_bytes o.lent.0.now
      → k.lent.0.now ≡ part 1 randomness_bytes o.lent.0.now
      → size_mut k.lent.1.0 ≡ secret_key_bytes → size_mut k.lent.1.1.0 ≡ public_key_bytes
      → take o.answer o.after.1.0.now ≡ written (said k.answer) (k.after.1.0.now ++ k.after.1.1.0.now)
  pub enc_job : (o : Job) (e : Enc) → o.answer ≤ size_mut o.lent.1.0 → IsJob 2 enc_job_bytes o.lent.0.now
      → e.lent.0.now ≡ part 1 public_key_bytes o.lent.0.now
      → e.lent.1.0.now ≡ part (1 + public_key_bytes) randomness_bytes o.lent.0.now
      → size_mut e.lent.1.1.0 ≡ shared_key_bytes → size_mut e.lent.1.1.1.0 ≡ ciphertext_bytes
      → take o.answer o.after.1.0.now ≡ written (said e.answer) (e.after.1.1.0.now ++ e.after.1.1.1.0.now)
  pub dec_job : (o : Job) (d : Dec) → o.answer ≤ size_mut o.lent.1.0 → IsJob 3 dec_job_bytes o.lent.0.now
      → d.lent.0.now ≡ part 1 secret_key_bytes o.lent.0.now
      → d.lent.1.0.now ≡ part (1 + secret_key_bytes) ciphertext_bytes o.lent.0.now
      → size_mut d.lent.1.1.0 ≡ shared_key_bytes
      → take o.answer o.after.1.0.now ≡ written (said d.answer) d.after.1.1.0.now
  -- where the answer has no room, the buffer is what it was
  pub no_room : (o : Job) → size_mut o.lent.1.0 < o.answer → o.after.1.0.now ≡ o.lent.1.0.now

pub record Demand1 : Type 2 where
  pub answered : Answered
  pub refused : Refused
