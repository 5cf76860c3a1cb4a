-- `add` adds, coefficient by coefficient.
use borrow.Author.Rules.{rules}
use Prim.Native.Nat.{◌+◌, ◌%◌}
use lib.ListN.{get_or}
use Rattle.field.specs.Field.{P}
use Rattle.ring.specs.Elements.{plus}
use Rattle.ring.proofs.Places.{placed_tab}
use Rattle.ring.proofs.add.Goals as goal

pub returns : goal.returns
unfolding plus
returns c =
    let a = c.args in
    let e = c.each_place.ensures in
    placed_tab (λ k x. (get_or a.lhs.now k 0 + get_or a.rhs.now k 0) % P) 64 a.out.now c.requires.2 e.0 (λ k h. let p = e.1 k h in search rules)
