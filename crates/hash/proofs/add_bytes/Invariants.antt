-- `add_bytes` has added i bytes after i turns.
use Prim.Native.Nat.{◌≤◌}
use mathlib.Core.Path.{◌≡◌}
use lib.ListN.{length}
use lib.ListN.{take}
use Rattle.hash.specs.Running.{xor_bytes}
use Rattle.hash.proofs.add_bytes.Given as goal

abbrev pub invariant-loop-i : goal.invariant-loop-i
invariant-loop-i l = (l.i ≤ length l.part) × (l.lanes ≡ xor_bytes l.initial.lanes l.at (take l.i l.part))
