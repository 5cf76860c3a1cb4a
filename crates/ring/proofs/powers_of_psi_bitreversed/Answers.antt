-- `powers_of_psi_bitreversed` holds its rule: one computed test of the 64 entries.
use mathlib.Core.Path.{refl}
use Rattle.laws.specs.Lists.{tab, tab_from}
use Rattle.ring.specs.Transform.{brv, zeta}
use Rattle.ring.proofs.powers_of_psi_bitreversed.Goals as goal

pub returns : goal.returns
unfolding tab tab_from zeta brv
returns c = refl
