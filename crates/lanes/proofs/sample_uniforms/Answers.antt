-- `sample_uniforms` draws as many uniform coefficients as there is room for. The loop's invariant: the first k are drawn.
use native.Mathlib.Omega.{arith}
use Prim.Native.Nat.{◌*◌}
use mathlib.Core.Path.{◌≡◌, refl, ◌∙◌}
use lib.ListN.{length}
use Rattle.laws.proofs.Updates.{mapped_more, mapped_all, mapped_at}
use Rattle.lanes.specs.Samplers.{uniforms}
use Rattle.lanes.proofs.Samplers.{uniform_part}
use Rattle.lanes.proofs.sample_uniforms.Goals as goal

pub returns : goal.returns
unfolding uniforms
returns c =
    let a = c.args in
    let e : c.loop-k.k ≡ length a.out.now = omega arith in
    mapped_all _ (length a.out.now) a.out.now c.loop-k.out refl (mapped_at e c.loop-k.invariant.2)

pub loop-k-preserved : goal.loop-k-preserved
loop-k-preserved c =
    let l = c.loop-k in
    let drawn = c.uniform_of.ensures ∙ uniform_part c.args.randomness.now (9 * l.k) _ (omega arith) in
    (omega arith, refl, mapped_more _ l.k c.uniform_of.result c.args.out.now l.out (omega arith) drawn l.invariant.2)
