-- `lanes_of` copies the 25 lanes of one state, one a turn.
use native.Mathlib.Omega.{arith}
use mathlib.Core.Path.{refl}
use lib.ListN.{replicate}
use Rattle.laws.proofs.Updates.{mapped_end}
use Rattle.keccak.specs.Pairs.{state}
use Rattle.keccak.proofs.lanes_of.Goals as goal

pub returns : goal.returns
unfolding state
returns c = mapped_end _ 25 _ (replicate 25 0) _ (omega arith) refl c.loop-i.invariant.1
