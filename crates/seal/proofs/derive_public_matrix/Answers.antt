-- `derive_public_matrix` draws all of G's bytes beside the vectors.
use mathlib.Core.Path.{ap, ◌∙◌}
use Rattle.lanes.specs.Samplers.{uniforms}
use Rattle.packets.specs.Parameters.{matrix_numbers, matrix_bytes}
use Rattle.packets.specs.Packets.{G}
use Rattle.seal.proofs.derive_public_matrix.Goals as goal

pub returns : goal.returns
unfolding G
returns c =
    let drawn = c.derive_secret_vectors.ensures in
    let bytes = drawn.0 ∙ c.of-stream.ensures.0.bytes matrix_bytes in
    (c.sample_matrix.ensures ∙ ap (uniforms matrix_numbers) bytes, drawn.2)
