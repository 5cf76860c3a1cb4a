-- `vector_times` makes its result element after element.
use native.Mathlib.Omega.{arith}
use borrow.Author.Rules.{rules}
use mathlib.Core.Path.{◌∙◌, refl, sym, subst}
use Prim.Native.Nat.{ℕ, ◌<◌}
use Rattle.ring.proofs.Cells.{stored_size, stored_more, stored_all}
use Rattle.ring.proofs.Dots.{dot_four}
use Rattle.ring.proofs.vector_times.Goals as goal

pub loop-e-preserved : goal.loop-e-preserved
loop-e-preserved c =
    let a = c.args in
    let e = c.loop-e.e in
    let size = stored_size c.loop-e.invariant (omega arith) in
    let made = c.each_place.ensures in
    stored_more c.loop-e.invariant c.each_place.new.array (omega arith) (made.0 ∙ size) (λ k h.
    let p = made.1 k (subst (λ (n : ℕ). k < n) (sym size) h) in
    dot_four a.vector.now a.matrix.now e a.row a.step k _ h refl _ (search rules))

pub returns : goal.returns
returns c = stored_all c.loop-e.invariant (omega arith)
