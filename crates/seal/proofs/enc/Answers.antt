-- `enc` seals the payload of the randomness.
use mathlib.Core.Path.{ap, ◌∙◌}
use Rattle.hash.specs.Fips202.{sha3_256}
use Rattle.lanes.specs.Samplers.{ones}
use Rattle.packets.specs.Packets.{payload, sealing, enc}
use Rattle.seal.proofs.enc.Goals as goal

pub returns : goal.returns
unfolding enc payload
returns c =
    let p = c.shake256.ensures in
    (c.sha3_256.ensures ∙ ap sha3_256 p, c.generate_ciphertext_derandomized.ensures ∙ ap (sealing ones _) p)
