-- `pack` has filled its output with the bytes of i numbers.
use Prim.Native.Nat.{◌*◌}
use Rattle.laws.proofs.Updates.{Filled}
use Rattle.codec.specs.Layout.{byte}
use Rattle.codec.proofs.pack.Given as goal

abbrev pub invariant-loop-i : goal.invariant-loop-i
invariant-loop-i l = Filled (byte l.w) (8 * l.i) l.initial.out l.out
