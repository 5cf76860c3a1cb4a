-- `coset_ntt_noswap_four` transforms one element a turn.
use native.Mathlib.Omega.{arith}
use Rattle.ring.proofs.Cells.{transformed_next, transformed_more, transformed_all}
use Rattle.ring.proofs.coset_ntt_noswap_four.Goals as goal

pub stages-requires : goal.stages-requires
stages-requires c = transformed_next c.loop-i.invariant (omega arith) c.requires

pub loop-i-preserved : goal.loop-i-preserved
loop-i-preserved c = transformed_more c.loop-i.invariant (omega arith) _ c.stages.ensures

pub returns : goal.returns
returns c = transformed_all c.loop-i.invariant (omega arith)
