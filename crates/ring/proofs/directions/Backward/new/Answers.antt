-- The table follows its rule: one computed test of the 64 entries.
use mathlib.Core.Path.{refl}
use Rattle.laws.specs.Lists.{tab, tab_from}
use Rattle.ring.specs.Transform.{brv, zeta_inv}
use Rattle.ring.proofs.directions.Backward.new.Goals as goal

pub invariant_of-result : goal.invariant_of-result
unfolding tab tab_from zeta_inv brv
invariant_of-result c = record { rule = refl }
