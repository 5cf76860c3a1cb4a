-- `generate_ciphertext_derandomized` reads the public key, derives the matrix beside the vectors, and seals.
use mathlib.Core.Path.{◌∙◌}
use Rattle.packets.specs.Packets.{bg_of, bga_m_of, sealing}
use Rattle.packets.specs.Layout.{public_of}
use Rattle.seal.specs.Sealing.{sealed}
use Rattle.seal.proofs.Vectors.{told-canonical}
use Rattle.seal.proofs.generate_ciphertext_derandomized.Goals as goal

pub invariant_of-public : goal.invariant_of-public
unfolding public_of
invariant_of-public c = record { canonical = told-canonical c.unpack.ensures c.requires.1 }

pub returns : goal.returns
unfolding sealing public_of bg_of bga_m_of
returns c =
    let ga = c.unpack.ensures in
    let both = c.derive_public_matrix.ensures in
    c.put_ciphertext.ensures ∙ (λ t. sealed (both.0 t) (ga t) (both.1.left_is t) (both.1.right_is t) c.args.payload.now)
