-- `add_assign` adds, coefficient by coefficient.
use borrow.Author.Rules.{rules}
use mathlib.Core.Path.{refl}
use Prim.Native.Nat.{◌+◌, ◌%◌}
use lib.ListN.{get_or}
use Rattle.field.specs.Field.{P}
use Rattle.ring.specs.Elements.{plus}
use Rattle.ring.proofs.Places.{placed_tab}
use Rattle.ring.proofs.add_assign.Goals as goal

pub returns : goal.returns
unfolding plus
returns c =
    let a = c.args in
    let e = c.each_place.ensures in
    placed_tab (λ k x. (x + get_or a.rhs.now k 0) % P) _ a.lhs.now refl e.0 (λ k h. let p = e.1 k h in search rules)
