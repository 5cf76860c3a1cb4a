-- `regenerates` draws the other part of G's bytes beside the payload's vectors, and seals again.
use native.Mathlib.Omega.{arith}
use mathlib.Core.Path.{◌∙◌}
use lib.ListN.{drop, length-drop}
use lib.Seq.{length-take-le}
use Rattle.codec.specs.Sizes.{ciphertext_numbers}
use Rattle.lanes.specs.Samplers.{uniforms}
use Rattle.packets.specs.Parameters.{matrix_numbers}
use Rattle.packets.specs.Packets.{same}
use Rattle.seal.specs.Sealing.{sealed_for, cut, others}
use Rattle.seal.proofs.Streams.{continues}
use Rattle.seal.proofs.regenerates.Goals as goal

pub returns : goal.returns
returns c =
    let made = c.derive_secret_vectors.ensures in
    let n = c.args in
    let old = n.bytes.now in
    let size = c.told-bytes in
    let lent = length-take-le others (drop cut old) (omega (arith, length-drop cut old, size)) in
    let bytes = continues n.stream.now.sponge old _ lent size made.0 in
    let a = n.key.now.left.numbers in
    let k = n.key.now.right.numbers in
    c.seals_again.ensures
    ∙ (λ t. same ciphertext_numbers (sealed_for (uniforms matrix_numbers (bytes t)) a k (made.2.left_is t) (made.2.right_is t) n.payload.now)
    n.ciphertext.numbers.now)
