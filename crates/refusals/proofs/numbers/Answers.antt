-- `numbers` judges coefficients.
use mathlib.Core.Path.{◌∙◌}
use borrow.Author.Rules.{rules}
use borrow.Author.Tests.{ne_eqb}
use Rattle.refusals.specs.Arguments.{fits, coefficients}
use Rattle.refusals.proofs.Steps.{looked-numbers, same, unseen}
use Rattle.refusals.proofs.numbers.Goals as goal

-- searched for, so that `map` and the like may stand between: `numbers_place_is_count` is refused for its place, not for its `map`
pub returns-then-s-n : goal.returns-then-s-n
unfolding fits coefficients
returns-then-s-n c = c.found.ensures ∙ same _ _ _ _ (looked-numbers _ _ _ (search rules) c.if-s-n.true)

pub returns-else-s-n : goal.returns-else-s-n
unfolding fits coefficients
returns-else-s-n c = unseen _ _ _ _ (ne_eqb _ _ c.if-s-n.false)
