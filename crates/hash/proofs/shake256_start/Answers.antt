-- `shake256_start` closes the message as SHAKE256 does.
use mathlib.Core.Path.{◌∙◌, ap}
use Rattle.hash.specs.Running.{drawn, hashed}
use Rattle.hash.proofs.Hashes.{hashed-shake256}
use Rattle.hash.proofs.shake256_start.Goals as goal

pub returns-clause-shakes : goal.returns-clause-shakes
unfolding hashed
returns-clause-shakes c = record {
  bytes = λ n. ap (drawn 136 n) c.fed.ensures.closed ∙ hashed-shake256 _ n (λ i. (c.type_inv.message i).fits);
}
