-- `dec_job` asks the public call and tells its answer.
use Rattle.job_calls.proofs.Fronts.{writes_key}
use Rattle.job_calls.specs.Jobs.{dec_answer}
use Rattle.job_calls.proofs.dec_job.Goals as goal

pub returns : goal.returns
unfolding dec_answer
returns c = search writes_key
