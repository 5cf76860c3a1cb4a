-- `embed_msg` fills the embedding. The loop's invariant: the first 2 i coefficients are those of the payload's bytes.
use native.Mathlib.Omega.{arith}
use Prim.Native.Nat.{ℕ, ◌+◌, ◌*◌, ◌/◌}
use mathlib.Core.Path.{◌≡◌, sym, ◌∙◌, ap}
use lib.ListN.{get_or}
use Rattle.laws.proofs.Updates.{mapped_more, mapped_all, mapped_at}
use Rattle.lanes.specs.Messages.{lifted, embed}
use Rattle.lanes.proofs.Messages.{lifted_upper, embedded_even, embedded_odd}
use Rattle.lanes.proofs.embed_msg.Goals as goal

pub loop-i-preserved : goal.loop-i-preserved
loop-i-preserved c =
    let a = c.args in
    let m = a.msg.now in
    let i = c.loop-i.i in
    let b = c.from-b.ensures in
    let low = c.lift.ensures ∙ ap (λ (x : ℕ). lifted x 0) b ∙ sym (embedded_even m i) in
    let high = c.lift-in-loop-i.ensures ∙ ap (λ (x : ℕ). lifted (x / 16) 0) b ∙ lifted_upper (get_or m i 0) ∙ sym (embedded_odd m i) in
    let e : 2 * i + 1 + 1 ≡ 2 * (i + 1) = omega arith in (
      omega arith,
      mapped_at e
          (mapped_more _ (2 * i + 1) c.lift-in-loop-i.result a.out.now _ (omega arith) high
          (mapped_more _ (2 * i) c.lift.result a.out.now c.loop-i.out (omega arith) low c.loop-i.invariant.1)),
    )

pub returns : goal.returns
unfolding embed
returns c =
    let e : 2 * c.loop-i.i ≡ 64 = omega arith in
    mapped_all _ 64 c.args.out.now c.loop-i.out c.requires.1 (mapped_at e c.loop-i.invariant.1)
