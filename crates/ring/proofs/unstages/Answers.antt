-- `unstages` goes through the six stages of the inverse.
use Rattle.ring.specs.Stages.{backward}
use Rattle.ring.proofs.Backward.{unscaled_is}
use Rattle.ring.proofs.unstages.Goals as goal

pub returns : goal.returns
unfolding backward
returns c =
    let last = c.stage-6.ensures in (
      unscaled_is _ c.stage.ensures.0 c.stage-2.ensures.0 c.stage-3.ensures.0 c.stage-4.ensures.0 c.stage-5.ensures.0 last.0,
      last.1,
    )
