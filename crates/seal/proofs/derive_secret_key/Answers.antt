-- `derive_secret_key` hashes for key and seed.
use native.Mathlib.Omega.{arith}
use mathlib.Core.List.{◌++◌}
use mathlib.Core.Path.{◌≡◌, ◌∙◌}
use lib.ListN.{length}
use Rattle.hash.specs.Fips202.{shake256}
use Rattle.packets.specs.Parameters.{seed_bytes}
use Rattle.packets.specs.Packets.{secret_key}
use Rattle.seal.proofs.derive_secret_key.Goals as goal

pub returns : goal.returns
unfolding secret_key
returns c =
    let both = c.shake256_two.ensures in
    let halves = c.split_at_mut-key.ensures in
    let key = both.0 ∙ (λ t. shake256 (c.followed_by-for_key.ensures t) (halves.front_len t)) in
    let size : length c.split_at_mut-key.result.1.now ≡ seed_bytes = omega (arith, halves.back_len, c.requires.1) in
    let seed = both.1 ∙ (λ t. shake256 (c.followed_by-for_seed.ensures t) (size t)) in
    λ t. key t ++ seed t
