-- `keygen` derives the secret key and its public key.
use mathlib.Core.List.{List}
use mathlib.Core.Path.{ap, ◌∙◌}
use Prim.Native.Nat.{ℕ}
use Rattle.lanes.specs.Samplers.{ones}
use Rattle.packets.specs.Packets.{public_key, keygen}
use Rattle.packets.specs.Layout.{public_bytes}
use Rattle.seal.proofs.keygen.Goals as goal

pub returns : goal.returns
unfolding keygen
returns c =
    let secret = c.derive_secret_key.ensures in
    (secret, c.derive_public_key.ensures ∙ ap (λ (sk : List ℕ). public_bytes (public_key ones sk)) secret)
