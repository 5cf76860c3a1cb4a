-- `derive_matrix` draws G.
use mathlib.Core.Path.{◌∙◌}
use Rattle.lanes.specs.Samplers.{uniforms}
use Rattle.packets.specs.Packets.{G}
use Rattle.bench.proofs.derive_matrix.Goals as goal

pub returns : goal.returns
unfolding G
returns c =
    c.sample_uniforms.ensures ∙ (λ t. uniforms (c.requires t) (c.shake256.ensures t))
