-- `stage` goes block by block.
use Prim.Native.Nat.{◌-◌}
use Rattle.ring.proofs.Blocks.{Staged}
use Rattle.ring.proofs.stage.Given as goal

abbrev pub invariant-loop-i : goal.invariant-loop-i
invariant-loop-i g l = let d = g.D.Direction in Staged d.low d.high d.zetas l.m l.t l.initial.array l.i l.array

abbrev pub decreases-loop-i : goal.decreases-loop-i
decreases-loop-i g l = l.m - l.i
