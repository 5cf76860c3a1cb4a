-- `unpack` has filled i places with their numbers.
use Prim.Native.Nat.{◌*◌}
use Rattle.laws.proofs.Updates.{Filled}
use Rattle.codec.specs.Layout.{word}
use Rattle.codec.proofs.unpack.Given as goal

abbrev pub invariant-loop-i : goal.invariant-loop-i
invariant-loop-i l = Filled (λ j. word l.s (8 * j)) l.i l.initial.out l.out
