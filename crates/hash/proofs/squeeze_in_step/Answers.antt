-- `squeeze_in_step` draws nothing where the two cannot go in step.
use Rattle.hash.proofs.Steps.{begun_none}
use Rattle.hash.proofs.squeeze_in_step.Goals as goal

pub returns-then-not-is_in_step-clause-begun : goal.returns-then-not-is_in_step-clause-begun
returns-then-not-is_in_step-clause-begun c = begun_none _ _ _

pub returns-then-not-is_in_step-clause-begun_2 : goal.returns-then-not-is_in_step-clause-begun_2
returns-then-not-is_in_step-clause-begun_2 c = begun_none _ _ _
