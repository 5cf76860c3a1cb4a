-- `rounds_two` has done a round of both states for each constant it has passed.
use Prim.Native.Nat.{◌≤◌}
use mathlib.Core.Path.{◌≡◌}
use lib.ListN.{length}
use Rattle.keccak.specs.Lanes.{constants, rounds}
use Rattle.keccak.specs.Pairs.{Both}
use Rattle.keccak.proofs.rounds_two.Given as goal

abbrev pub invariant-loop-c : goal.invariant-loop-c
invariant-loop-c l = (l.c-index ≤ 24) × (length l.s ≡ 52) × Both (rounds l.c-index) l.initial.s l.s × (l.c-items ≡ constants)
