-- `stage` goes block by block.
use native.Mathlib.Omega.{arith}
use Rattle.ring.proofs.Blocks.{staged_more, staged_all}
use Rattle.ring.proofs.stage.Goals as goal

pub returns : goal.returns
returns g c = staged_all c.loop-i.invariant g.met.D.Direction.canonical (omega arith)

pub loop-i-preserved : goal.loop-i-preserved
loop-i-preserved g c = staged_more c.loop-i.invariant (omega arith) c.zeta-zeta.ensures c.butterflies.ensures
