-- `coset_intt_noswap_64` is the inverse transform.
use borrow.Author.Rules.{rules}
use Rattle.ring.proofs.Backward.{untransformed}
use Rattle.ring.proofs.coset_intt_noswap_64.Goals as goal

pub returns : goal.returns
returns c = search (rules, untransformed)
