-- `is_job` tests the length and then the first byte.
use borrow.Author.Tests.{eq-eqb, ne_eqb}
use Rattle.job_calls.specs.Jobs.{is_job}
use Rattle.job_calls.proofs.is_job.Goals as goal

pub returns-then-input-n : goal.returns-then-input-n
unfolding is_job
returns-then-input-n c = simp (eq-eqb _ _ c.if-input-n.true)

pub returns-else-input-n : goal.returns-else-input-n
unfolding is_job
returns-else-input-n c = simp (ne_eqb _ _ c.if-input-n.false)
