-- `parities` makes the five parities.
use borrow.Author.Rules.{rules}
use Rattle.keccak.specs.Lanes.{parities}
use Rattle.keccak.proofs.Places.{five_of}
use Rattle.keccak.proofs.parities.Goals as goal

pub returns : goal.returns
unfolding parities
returns c = five_of _ _ c.from_fn.ensures.items.long (search rules) (search rules) (search rules) (search rules) (search rules)
