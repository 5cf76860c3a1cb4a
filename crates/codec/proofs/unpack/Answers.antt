-- `unpack` has filled i places with their numbers.
use native.Mathlib.Omega.{arith}
use Rattle.laws.proofs.Updates.{mapped_end}
use Rattle.codec.specs.Layout.{words}
use Rattle.codec.proofs.unpack.Goals as goal

pub returns : goal.returns
unfolding words
returns c = mapped_end _ _ _ _ _ (omega arith) (omega arith) c.loop-i.invariant
