-- `copy_state` has copied i lanes after i turns.
use Prim.Native.Nat.{◌+◌, ◌*◌}
use Rattle.laws.proofs.Updates.{Filled}
use Rattle.keccak.specs.Pairs.{state}
use Rattle.hash.specs.Running.{byte_of}
use Rattle.hash.proofs.copy_state.Given as goal

abbrev pub invariant-loop-i : goal.invariant-loop-i
invariant-loop-i l = Filled (λ k. byte_of (state l.s l.j) (0 + k)) (8 * l.i) l.initial.out l.out
