-- `derive_ga` combines the matrix of the seed and the vectors of the key.
use mathlib.Core.Path.{◌∙◌}
use Rattle.packets.specs.Packets.{ga_of}
use Rattle.seal.specs.Sealing.{combined}
use Rattle.seal.proofs.derive_ga.Goals as goal

pub returns : goal.returns
unfolding ga_of
returns c =
    let both = c.derive_public_matrix.ensures in
    c.combine.ensures ∙ (λ t. combined (both.0 t) (both.1.left_is t) (both.1.right_is t))
