-- `coset_ntt_noswap_four` transforms one element a turn.
use Prim.Native.Nat.{◌-◌}
use Rattle.ring.proofs.Cells.{Transformed}
use Rattle.ring.proofs.coset_ntt_noswap_four.Given as goal

abbrev pub invariant-loop-i : goal.invariant-loop-i
invariant-loop-i l = Transformed 4 l.i l.initial.vector l.vector

abbrev pub decreases-loop-i : goal.decreases-loop-i
decreases-loop-i l = 4 - l.i
