-- `scale` multiplies each of 64 numbers.
use borrow.Author.Rules.{rules}
use Prim.Native.Nat.{◌*◌, ◌%◌}
use Rattle.field.specs.Field.{P}
use Rattle.ring.specs.Stages.{scaled}
use Rattle.ring.proofs.Places.{placed_tab}
use Rattle.ring.proofs.scale.Goals as goal

pub returns : goal.returns
unfolding scaled
returns c =
    let a = c.args in
    let e = c.each_place.ensures in
    placed_tab (λ k x. a.factor * x % P) 64 a.array.now c.requires e.0 (λ k h. let p = e.1 k h in search rules)
