-- The step of `judge_value` tells what `judged` does.
use Rattle.refusals.specs.Judgement.{judged}
use Rattle.refusals.proofs.Calls.{judges}
use Rattle.refusals.proofs.judge_value.Goals as goal

pub returns : goal.returns
unfolding judged
returns c = judges _ _ c.value.ensures
