-- `complement` has complemented the first lanes that `over` names.
use Prim.Native.Nat.{◌≤◌}
use mathlib.Core.Path.{◌≡◌}
use Rattle.keccak.proofs.Flips.{places, first_flipped}
use Rattle.keccak.proofs.complement.Given as goal

abbrev pub invariant-loop-i : goal.invariant-loop-i
invariant-loop-i l = (l.i-index ≤ 6) × (l.i-items ≡ places) × (l.v ≡ first_flipped l.i-index l.initial.v)
