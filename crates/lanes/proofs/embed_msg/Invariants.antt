-- `embed_msg` fills the embedding. The loop's invariant: the first 2 i coefficients are those of the payload's bytes.
use Prim.Native.Nat.{◌*◌, ◌-◌, ◌≤◌}
use Rattle.laws.proofs.Updates.{Filled}
use Rattle.lanes.specs.Messages.{embedded}
use Rattle.lanes.proofs.embed_msg.Given as goal

abbrev pub invariant-loop-i : goal.invariant-loop-i
invariant-loop-i l = (l.i ≤ 32) × Filled (embedded l.msg) (2 * l.i) l.initial.out l.out

abbrev pub decreases-loop-i : goal.decreases-loop-i
decreases-loop-i l = 32 - l.i
