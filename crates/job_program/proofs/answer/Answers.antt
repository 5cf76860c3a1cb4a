-- What `job` writes for the bytes that were read is the answer to the input.
use Rattle.std.proofs.Common.{rules}
use Rattle.job_program.proofs.Fronts.{answers}
use Rattle.job_program.proofs.answer.Goals as goal

pub returns : goal.returns
returns c = answers _ _ _ _ _ (search rules) c.job.ensures
