-- The table follows its rule: one computed test of the 64 entries.
use mathlib.Core.Path.{refl}
use Rattle.laws.specs.Lists.{tab, tab_from}
use Rattle.ring.specs.Transform.{brv, zeta}
use Rattle.field.specs.Element.{word}
use Rattle.ring.specs.Stages.{zeta_word}
use Rattle.ring.proofs.directions.Forward.new.Goals as goal

pub invariant_of-result : goal.invariant_of-result
unfolding tab tab_from zeta_word word zeta brv
invariant_of-result c = record { rule = refl }
