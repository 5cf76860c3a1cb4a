-- `packed` judges coefficients in bytes.
use mathlib.Core.Path.{refl, ◌∙◌}
use borrow.Author.Tests.{ne_eqb}
use Rattle.refusals.specs.Arguments.{fits, coefficients}
use Rattle.refusals.proofs.Steps.{looked-bytes, same, unseen, unseen_past}
use Rattle.refusals.proofs.packed.Goals as goal
use Rattle.refusals.proofs.packed.Goals.{else-s-n-via-then-s-n+else-start-n, else-s-n-via-else-s-n}

pub returns-then-start-n : goal.returns-then-start-n
unfolding fits coefficients
returns-then-start-n c =
    c.found.ensures ∙ same _ _ _ _ (looked-bytes _ _ _ _ _ c.first_bad_packed.ensures c.if-s-n.true refl)

pub returns-else-s-n : goal.returns-else-s-n
unfolding fits coefficients
returns-else-s-n c = elim c.else-s-n.branch [
  | else-s-n-via-then-s-n+else-start-n w ↦ unseen_past _ _ _ _ _ _ w.if-s-n.true w.if-start-n.false
  | else-s-n-via-else-s-n w ↦ unseen _ _ _ _ (ne_eqb _ _ w.if-s-n.false)
]
