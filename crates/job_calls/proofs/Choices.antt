-- Which answer a job has, from what `is_job` said of it.
use mathlib.Core.Bool.{Bool, true, false}
use mathlib.Core.Path.{◌≡◌, refl, sym, ◌∙◌}
use mathlib.Core.List.{List}
use Prim.Native.Nat.{ℕ, ◌+◌}
use lib.Dec.{eqb}
use lib.ListN.{length, get_or}
use borrow.Author.Tests.{eqb-true}
use Rattle.laws.specs.Choices.{pick}
use Rattle.laws.specs.Lists.{part}
use Rattle.codec.specs.Sizes.{secret_key_bytes, public_key_bytes, ciphertext_bytes, randomness_bytes}
use Rattle.refusals.specs.Judgement.{sign}
use Rattle.job_calls.specs.Jobs.{keygen_job_bytes, enc_job_bytes, dec_job_bytes, is_job, ten, Writes}
use Rattle.job_calls.specs.Jobs.{job_answer, keygen_answer, enc_answer, dec_answer}

pub both_true : (a b : Bool) → pick a b false ≡ true → (a ≡ true) × (b ≡ true)
both_true true b e = (refl, e)
both_true false b e = let z : ◌≡◌ {A = Bool} false true = e in (z, cc)

pub job-size : (b : Bool) (t n : ℕ) (s : List ℕ) → b ≡ is_job t n s → b ≡ true → length s ≡ n
unfolding is_job
job-size b t n s e f = eqb-true (length s) n (both_true (eqb (length s) n) (eqb (get_or s 0 0) t) (sym e ∙ f)).0

-- ---- what was written is the answer, by the kind that the job is of
module _ (s : List ℕ) (n : ℕ) (old new : List ℕ) where
  pub keygen-written : (b : Bool) → b ≡ is_job 1 keygen_job_bytes s → b ≡ true
      → Writes (keygen_answer (part 1 randomness_bytes s)) n old new → Writes (job_answer s) n old new
  unfolding job_answer
  keygen-written b e f w = rw (← e, f) w

  pub enc-written : (b c : Bool) → b ≡ is_job 1 keygen_job_bytes s → b ≡ false → c ≡ is_job 2 enc_job_bytes s → c ≡ true
      → Writes (enc_answer (part 1 public_key_bytes s) (part (1 + public_key_bytes) randomness_bytes s)) n old new → Writes (job_answer s) n old new
  unfolding job_answer
  enc-written b c e f g h w = rw (← e, ← g, f, h) w

  pub dec-written : (b c d : Bool) → b ≡ is_job 1 keygen_job_bytes s → b ≡ false → c ≡ is_job 2 enc_job_bytes s → c ≡ false
      → d ≡ is_job 3 dec_job_bytes s → d ≡ true
      → Writes (dec_answer (part 1 secret_key_bytes s) (part (1 + secret_key_bytes) ciphertext_bytes s)) n old new → Writes (job_answer s) n old new
  unfolding job_answer
  dec-written b c d e f g h i j w = rw (← e, ← g, ← i, f, h, j) w

  pub no_job_written : (b c d : Bool) → b ≡ is_job 1 keygen_job_bytes s → b ≡ false → c ≡ is_job 2 enc_job_bytes s → c ≡ false
      → d ≡ is_job 3 dec_job_bytes s → d ≡ false → Writes (ten (sign 5 0 0)) n old new → Writes (job_answer s) n old new
  unfolding job_answer
  no_job_written b c d e f g h i j w = rw (← e, ← g, ← i, f, h, j) w
