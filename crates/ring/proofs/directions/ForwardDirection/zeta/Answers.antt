-- The word of the table stands for the zeta.
use mathlib.Core.Path.{◌∙◌, ap}
use Rattle.field.specs.Field.{reduced}
use Rattle.ring.specs.Stages.{zeta_word}
use Rattle.ring.proofs.Zetas.{entry_is, words_below, zeta-reduced, zeta_word_number}
use Rattle.ring.proofs.directions.ForwardDirection.zeta.Goals as goal

pub from_word-requires : goal.from_word-requires
from_word-requires c = words_below c.args.self.now.rule c.args.k c.requires

pub returns : goal.returns
returns c =
    let k = c.args.k in
    c.from_word.ensures ∙ ap reduced (entry_is zeta_word k c.requires c.args.self.now.rule) ∙ zeta_word_number k ∙ zeta-reduced k
