-- `shake256` is FIPS 202's, by the law on the running sponge.
use mathlib.Core.Path.{◌∙◌}
use Rattle.hash.proofs.Hashes.{hashed-shake256}
use Rattle.hash.proofs.shake256.Goals as goal

pub returns : goal.returns
returns c =
    c.put_hash.ensures ∙ hashed-shake256 _ _ (λ i. (c.type_inv.message i).fits)
