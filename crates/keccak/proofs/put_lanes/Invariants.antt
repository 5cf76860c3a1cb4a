-- `put_lanes` has put i lanes after i turns.
use Prim.Native.Nat.{◌≤◌}
use Rattle.keccak.proofs.Interleaved.{Put}
use Rattle.keccak.proofs.put_lanes.Given as goal

abbrev pub invariant-loop-i : goal.invariant-loop-i
invariant-loop-i l = (l.i ≤ 25) × Put l.j l.i l.lane-items l.initial.s l.s
