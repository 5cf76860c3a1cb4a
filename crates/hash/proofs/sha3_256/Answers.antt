-- `sha3_256` is FIPS 202's, by the law on the running sponge.
use mathlib.Core.Path.{◌∙◌, ap}
use Rattle.hash.specs.Running.{hashed}
use Rattle.hash.proofs.Hashes.{hashed_sha3_256}
use Rattle.hash.proofs.sha3_256.Goals as goal

pub returns : goal.returns
returns c =
    c.put_hash.ensures ∙ ap (hashed 136 6 c.args.message.now) c.requires
    ∙ hashed_sha3_256 _ (λ i. (c.type_inv.message i).fits)
