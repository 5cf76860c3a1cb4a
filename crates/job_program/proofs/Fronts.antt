-- The front of an input has the input's answer, where it is all of the input or longer than any job.
use Rattle.std.proofs.Common.{Bool, true, false, ◌≡◌, refl, sym, ◌∙◌, ap, subst, List, ℕ, ◌≤◌, ◌<◌, leb, length, take, arith}
use Rattle.std.proofs.Common.{take_all, length-take-le, ne_eqb, leb-true, leb-false}
use Rattle.refusals.specs.Judgement.{sign}
use Rattle.job_calls.specs.Jobs.{keygen_job_bytes, enc_job_bytes, dec_job_bytes, longest_answer, is_job, job_answer, ten, Writes}
use Rattle.job_calls.proofs.Sizes.{answer-size}
use Rattle.job_program.specs.Inputs.{Answers}

no_job : (t n : ℕ) (s : List ℕ) → n < length s → is_job t n s ≡ false
unfolding is_job
no_job t n s h = simp (ne_eqb (length s) n (λ e. omega (arith, e)))

too_long : (s : List ℕ) → dec_job_bytes < length s → job_answer s ≡ ten (sign 5 0 0)
unfolding job_answer
too_long s h = rw (no_job 1 keygen_job_bytes s (omega arith), no_job 2 enc_job_bytes s (omega arith), no_job 3 dec_job_bytes s h)

same_answer : (b : Bool) (k : ℕ) (s t : List ℕ) → leb (length s) k ≡ b → dec_job_bytes < k → take k s ≡ t
    → job_answer s ≡ job_answer t
same_answer true k s t f h e = ap job_answer (sym (take_all k s (leb-true (length s) k f)) ∙ e)
same_answer false k s t f h e =
    let longer = leb-false (length s) k f in
    let full : length t ≡ k = ap length (sym e) ∙ length-take-le k s (omega (arith, longer)) in
    too_long s (omega (arith, longer)) ∙ sym (too_long t (omega (arith, full)))

-- what `job` wrote for the bytes that were read answers the input
pub answers : (buf : List ℕ) (n m : ℕ) (old new : List ℕ) → dec_job_bytes < length buf
    → Writes (job_answer (take n buf)) m old new → (m ≤ longest_answer) × Answers buf n m old new
answers buf n m old new h w =
    let k = length buf in
    let front = take n buf in (
      omega (arith, w.count, answer-size front),
      record {
        each = λ input holds. subst (λ (a : List ℕ). Writes a m old new) (sym (same_answer (leb (length input) k) k input front refl h holds)) w;
      },
    )
