-- `turned_row` turns the five lanes of a row.
use mathlib.Core.Path.{refl}
use Rattle.laws.specs.Lists.{tab, tab_from}
use Rattle.keccak.proofs.turned_row.Goals as goal

pub returns : goal.returns
unfolding tab tab_from
returns c =
    rw (c.turned_lane.ensures, c.turned_lane-2.ensures, c.turned_lane-3.ensures, c.turned_lane-4.ensures, c.turned_lane-5.ensures) refl
