-- `each_place` makes one number after another.
use native.Mathlib.Omega.{arith}
use borrow.Author.Rules.{rules}
use mathlib.Core.Path.{subst, sym}
use Prim.Native.Nat.{ℕ, ◌<◌}
use lib.ListN.{length}
use Rattle.ring.proofs.Places.{placed_next, placed_more}
use Rattle.ring.proofs.each_place.Goals as goal

pub returns : goal.returns
returns g c =
    let p = c.loop-k.invariant.1 in
    (p.same_length, λ k h. p.passed k (omega arith))

pub f-requires : goal.f-requires
f-requires g c =
    let l = c.loop-k in
    let h : l.k < length c.args.array.now = omega (arith, l.invariant.1.same_length) in
    let e = placed_next l.invariant.1 in
    let r = rw (sym e) at (c.requires l.k h) in
    search rules

pub loop-k-preserved : goal.loop-k-preserved
loop-k-preserved g c =
    let l = c.loop-k in
    let h : l.k < length c.args.array.now = omega (arith, l.invariant.1.same_length) in (
      omega arith,
      placed_more c.f.result h (subst (λ (x : ℕ). goal.F-post g c.args.f l.k x c.f.result) (placed_next l.invariant.1) c.f.ensures)
          l.invariant.1,
    )
