-- `extract_msg` fills the payload. The loop's invariant: the first i bytes are read.
use Prim.Native.Nat.{◌-◌, ◌≤◌}
use Rattle.laws.proofs.Updates.{Filled}
use Rattle.lanes.specs.Messages.{extracted}
use Rattle.lanes.proofs.extract_msg.Given as goal

abbrev pub invariant-loop-i : goal.invariant-loop-i
invariant-loop-i l = (l.i ≤ 32) × Filled (extracted l.embedding) l.i l.initial.out l.out

abbrev pub decreases-loop-i : goal.decreases-loop-i
decreases-loop-i l = 32 - l.i
