-- `copy_bytes` has copied i bytes after i turns.
use Prim.Native.Nat.{◌+◌, ◌≤◌}
use lib.ListN.{length}
use Rattle.laws.proofs.Updates.{Filled}
use Rattle.hash.specs.Running.{byte_of}
use Rattle.hash.proofs.copy_bytes.Given as goal

abbrev pub invariant-loop-i : goal.invariant-loop-i
invariant-loop-i l = (l.i ≤ length l.initial.out) × Filled (λ k. byte_of l.lanes (l.at + k)) l.i l.initial.out l.out
