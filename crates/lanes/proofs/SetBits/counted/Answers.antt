-- `counted` puts the counts of four bytes into their lanes.
use native.Mathlib.Omega.{arith}
use Prim.Native.Nat.{◌+◌, ◌*◌, ◌^◌}
use mathlib.Core.Path.{◌∙◌}
use Rattle.lanes.specs.Samplers.{counts}
use Rattle.lanes.proofs.SetBits.counted.Goals as goal

pub returns : goal.returns
unfolding counts
returns c =
    let e₀ = c.of-c0.ensures in
    let e₁ = c.of-c1.ensures in
    let e₂ = c.of-c2.ensures in
    let e₃ = c.of-c3.ensures in
    ((λ i. e₀.0 i * 2 ^ 48 + e₁.0 i * 2 ^ 32 + e₂.0 i * 2 ^ 16 + e₃.0 i) ∙ (omega arith), omega arith)
