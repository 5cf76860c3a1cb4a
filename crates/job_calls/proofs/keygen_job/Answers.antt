-- `keygen_job` asks the public call and tells its answer.
use Rattle.job_calls.proofs.Fronts.{writes_two}
use Rattle.job_calls.specs.Jobs.{keygen_answer}
use Rattle.job_calls.proofs.keygen_job.Goals as goal

pub returns : goal.returns
unfolding keygen_answer
returns c = search writes_two
