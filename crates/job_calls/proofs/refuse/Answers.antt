-- `refuse` writes number, argument and place.
use Rattle.job_calls.proofs.Fronts.{writes_ten}
use Rattle.job_calls.proofs.refuse.Goals as goal

pub returns : goal.returns
returns c = writes_ten _ _ _ _ _ _ _ _ c.from-s.ensures c.to_le_bytes.ensures c.write.ensures
