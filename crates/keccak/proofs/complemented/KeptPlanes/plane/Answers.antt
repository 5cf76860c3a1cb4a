-- `Kept::plane` makes a row of lanes and effects that are kept complemented.
use mathlib.Core.Path.{◌≡◌}
use native.Mathlib.Omega.{arith}
use mir.Syntax.{w64}
use Rattle.laws.specs.Lists.{tab, tab_from}
use Rattle.laws.proofs.Arrays.{array_below}
use Rattle.keccak.proofs.Flips.{made_kept}
use Rattle.keccak.proofs.complemented.KeptPlanes.plane.Goals as goal

pub returns-in-0 : goal.returns-in-0
unfolding tab tab_from
returns-in-0 c =
    rw (c.turned_row.ensures, c.in-0.is)
    (made_kept _ _ 0 (array_below w64 25 _ _ c.well_formed.0) (array_below w64 5 _ _ c.well_formed.1.0) (omega arith))

pub returns-in-1 : goal.returns-in-1
unfolding tab tab_from
returns-in-1 c =
    rw (c.turned_row.ensures, c.in-1.is)
    (made_kept _ _ 1 (array_below w64 25 _ _ c.well_formed.0) (array_below w64 5 _ _ c.well_formed.1.0) (omega arith))

pub returns-in-2 : goal.returns-in-2
unfolding tab tab_from
returns-in-2 c =
    rw (c.turned_row.ensures, c.in-2.is)
    (made_kept _ _ 2 (array_below w64 25 _ _ c.well_formed.0) (array_below w64 5 _ _ c.well_formed.1.0) (omega arith))

pub returns-in-3 : goal.returns-in-3
unfolding tab tab_from
returns-in-3 c =
    rw (c.turned_row.ensures, c.in-3.is)
    (made_kept _ _ 3 (array_below w64 25 _ _ c.well_formed.0) (array_below w64 5 _ _ c.well_formed.1.0) (omega arith))

pub returns-in_default : goal.returns-in_default
unfolding tab tab_from
returns-in_default c =
    let last : c.args.y ≡ 4 = omega (arith, c.requires, c.in_default) in
    rw (c.turned_row.ensures, last)
    (made_kept _ _ 4 (array_below w64 25 _ _ c.well_formed.0) (array_below w64 5 _ _ c.well_formed.1.0) (omega arith))
