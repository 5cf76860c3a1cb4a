-- `butterflies` does the t butterflies of one block.
use Prim.Native.Nat.{◌-◌}
use Rattle.ring.proofs.Blocks.{Turned}
use Rattle.ring.proofs.butterflies.Given as goal

abbrev pub invariant-loop-j : goal.invariant-loop-j
invariant-loop-j g l = Turned g.D.Direction.low g.D.Direction.high l.zeta l.s l.t l.j-end l.j l.initial.array l.array

abbrev pub decreases-loop-j : goal.decreases-loop-j
decreases-loop-j g l = l.j-end - l.j
