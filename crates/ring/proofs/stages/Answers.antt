-- `stages` is the transform: its six stages are.
use Rattle.ring.specs.Stages.{forward}
use Rattle.ring.proofs.Forward.{forward-transform}
use Rattle.ring.proofs.stages.Goals as goal

pub returns : goal.returns
unfolding forward
returns c =
    forward-transform c.requires c.stage.ensures.0 c.stage-2.ensures.0 c.stage-3.ensures.0 c.stage-4.ensures.0 c.stage-5.ensures.0
    c.stage-6.ensures.0
