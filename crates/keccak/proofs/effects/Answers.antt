-- `effects` makes what theta adds to the five columns.
use borrow.Author.Rules.{rules}
use Rattle.keccak.specs.Lanes.{rot, effect, effects}
use Rattle.keccak.proofs.Places.{five_of}
use Rattle.keccak.proofs.effects.Goals as goal

pub returns : goal.returns
unfolding effects effect rot
returns c = five_of _ _ c.from_fn.ensures.items.long (search rules) (search rules) (search rules) (search rules) (search rules)
