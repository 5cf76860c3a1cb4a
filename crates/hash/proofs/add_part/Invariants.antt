-- `add_part` has added i words after i turns.
use Prim.Native.Nat.{◌*◌}
use mathlib.Core.Path.{◌≡◌}
use lib.ListN.{take}
use Rattle.hash.specs.Running.{xor_bytes}
use Rattle.hash.proofs.add_part.Given as goal

abbrev pub invariant-loop-i : goal.invariant-loop-i
invariant-loop-i l = l.lanes ≡ xor_bytes l.initial.lanes l.at (take (8 * l.i) l.part)
