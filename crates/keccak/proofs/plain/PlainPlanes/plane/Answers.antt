-- `Plain::plane` makes a row.
use mathlib.Core.Path.{refl, ap}
use mathlib.Core.List.{List}
use Prim.Native.Nat.{ℕ}
use lib.ListN.{get_or}
use Rattle.laws.specs.Lists.{tab, tab_from}
use Rattle.keccak.proofs.Assembly.{chi_of}
use Rattle.keccak.proofs.plain.PlainPlanes.plane.Goals as goal

pub returns : goal.returns
unfolding tab tab_from
returns c =
    let at = λ (x : ℕ). ap (λ (l : List ℕ). get_or l x 0) c.turned_row.ensures in
    chi_of _ _ _ _ _ _ _ _ _ refl (at 0) (at 1) (at 2) (at 3) (at 4)
