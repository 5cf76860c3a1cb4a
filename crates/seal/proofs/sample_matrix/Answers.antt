-- `sample_matrix` samples.
use mathlib.Core.Path.{ap, ◌∙◌}
use Prim.Native.Nat.{ℕ}
use Rattle.lanes.specs.Samplers.{uniforms}
use Rattle.lanes.proofs.Samplers.{uniforms-canonical}
use Rattle.packets.specs.Parameters.{matrix_numbers}
use Rattle.seal.proofs.Vectors.{told-canonical}
use Rattle.seal.proofs.sample_matrix.Goals as goal

pub invariant_of-g : goal.invariant_of-g
invariant_of-g c =
    let g = c.sample_uniforms.ensures ∙ ap (λ (n : ℕ). uniforms n c.args.bytes.now) c.args.g.now.canonical.size in
    record { canonical = told-canonical g (uniforms-canonical matrix_numbers _) }
