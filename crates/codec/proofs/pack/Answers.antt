-- `pack` has filled its output with the bytes of i numbers.
use native.Mathlib.Omega.{arith}
use Rattle.laws.proofs.Updates.{mapped_end}
use Rattle.codec.specs.Layout.{bytes}
use Rattle.codec.proofs.pack.Goals as goal

pub returns : goal.returns
unfolding bytes
returns c = mapped_end _ _ _ _ _ (omega arith) (omega arith) c.loop-i.invariant
