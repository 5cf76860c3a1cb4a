-- The table holds the count of set bits of every byte: one computed test.
use mathlib.Core.Path.{refl}
use Rattle.laws.specs.Lists.{tab, tab_from}
use Rattle.laws.specs.Bits.{bit}
use Rattle.lanes.specs.Samplers.{ones}
use Rattle.lanes.proofs.SetBits.new.Goals as goal

pub invariant_of-result : goal.invariant_of-result
unfolding tab tab_from ones bit
invariant_of-result c = record { rule = refl }
