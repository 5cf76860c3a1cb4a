-- `hadamard_assign` multiplies, entry by entry.
use borrow.Author.Rules.{rules}
use Prim.Native.Nat.{◌*◌, ◌%◌}
use lib.ListN.{get_or}
use Rattle.field.specs.Field.{P}
use Rattle.ring.specs.Elements.{hadamard}
use Rattle.ring.proofs.Places.{placed_tab}
use Rattle.ring.proofs.hadamard_assign.Goals as goal

pub returns : goal.returns
unfolding hadamard
returns c =
    let a = c.args in
    let e = c.each_place.ensures in
    placed_tab (λ k x. x * get_or a.rhs.now k 0 % P) 64 a.lhs.now c.requires.0.size e.0 (λ k h. let p = e.1 k h in search rules)
