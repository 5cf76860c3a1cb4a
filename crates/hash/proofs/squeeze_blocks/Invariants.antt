-- `squeeze_blocks` has drawn i blocks of both states.
use Prim.Native.Nat.{◌*◌}
use Rattle.keccak.specs.Pairs.{state}
use Rattle.hash.specs.Running.{run}
use Rattle.hash.proofs.Steps.{Whole}
use Rattle.hash.proofs.squeeze_blocks.Given as goal

abbrev pub invariant-loop-i : goal.invariant-loop-i
invariant-loop-i l = record {
  left : Whole l.rate.bytes (l.i * l.rate.bytes) (run (state l.initial.s 2) l.rate.bytes) (state l.s 2) l.initial.left l.left;
  right : Whole l.rate.bytes (l.i * l.rate.bytes) (run (state l.initial.s 3) l.rate.bytes) (state l.s 3) l.initial.right l.right;
}
