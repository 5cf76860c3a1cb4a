-- `lanes_of` copies the 25 lanes of one state, one a turn.
use Prim.Native.Nat.{◌+◌, ◌*◌, ◌≤◌}
use lib.ListN.{get_or}
use lib.ListN.{replicate}
use Rattle.laws.proofs.Updates.{Filled}
use Rattle.keccak.proofs.lanes_of.Given as goal

abbrev pub invariant-loop-i : goal.invariant-loop-i
invariant-loop-i l = (l.i ≤ 25) × Filled (λ k. get_or l.s (2 * k + l.j) 0) l.i (replicate 25 0) l.lane-items
