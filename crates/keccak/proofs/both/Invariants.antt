-- `both` has done a round of the states below j.
use Prim.Native.Nat.{◌-◌, ◌≤◌}
use Rattle.keccak.specs.Lanes.{step}
use Rattle.keccak.proofs.Interleaved.{Passed}
use Rattle.keccak.proofs.both.Given as goal

abbrev pub invariant-loop-j : goal.invariant-loop-j
invariant-loop-j l = (2 ≤ l.j) × (l.j ≤ 4) × Passed (λ a. step a l.c) l.j l.initial.s l.s

abbrev pub decreases-loop-j : goal.decreases-loop-j
decreases-loop-j l = 4 - l.j
