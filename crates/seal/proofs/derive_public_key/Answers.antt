-- `derive_public_key` fills both parts of the public key.
use mathlib.Core.List.{◌++◌}
use mathlib.Core.Path.{ap, ◌∙◌}
use Rattle.codec.specs.Layout.{bytes}
use Rattle.lanes.specs.Samplers.{ones}
use Rattle.packets.specs.Packets.{G, ga_of, public_key}
use Rattle.packets.specs.Layout.{public_bytes}
use Rattle.seal.proofs.Halves.{whole_seed}
use Rattle.seal.proofs.derive_public_key.Goals as goal

pub returns : goal.returns
unfolding public_bytes public_key
returns c =
    let halves = c.split_at.ensures in
    let seed = halves.back ∙ whole_seed _ c.requires.0 in
    let ga = c.derive_ga.ensures ∙ (λ t. ga_of ones (G (seed t)) (halves.front t)) in
    λ t. (c.copy_from_slice.ensures.after ∙ seed) t ++ (c.pack.ensures ∙ ap bytes ga) t
