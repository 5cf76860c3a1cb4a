-- `sub` subtracts, coefficient by coefficient.
use borrow.Author.Rules.{rules}
use Prim.Native.Nat.{◌+◌, ◌-◌, ◌%◌}
use lib.ListN.{get_or}
use Rattle.field.specs.Field.{P}
use Rattle.ring.specs.Elements.{minus}
use Rattle.ring.proofs.Places.{placed_tab}
use Rattle.ring.proofs.sub.Goals as goal

pub returns : goal.returns
unfolding minus
returns c =
    let a = c.args in
    let e = c.each_place.ensures in
    placed_tab (λ k x. (get_or a.lhs.now k 0 + (P - get_or a.rhs.now k 0)) % P) 64 a.out.now c.requires.2 e.0 (λ k h. let p = e.1 k h in search rules)
