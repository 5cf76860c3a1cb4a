-- `squeeze_two` draws both in step, and then the rest of each alone.
use native.Mathlib.Omega.{arith}
use lib.ListN.{length-take, length-drop}
use Rattle.hash.proofs.Steps.{begun_end}
use Rattle.hash.proofs.squeeze_two.Goals as goal

pub returns-clause-drawn : goal.returns-clause-drawn
returns-clause-drawn c =
    let alone = c.squeeze.ensures in
    begun_end _ _ _ _ _ _ c.squeeze_in_step-n.ensures.begun _ _ _ alone.drawn alone.rest alone.upper_bound
    (simp (length-take, length-drop) (omega arith))

pub returns-clause-drawn_2 : goal.returns-clause-drawn_2
returns-clause-drawn_2 c =
    let alone = c.squeeze-2.ensures in
    begun_end _ _ _ _ _ _ c.squeeze_in_step-n.ensures.begun_2 _ _ _ alone.drawn alone.rest alone.upper_bound
    (simp (length-take, length-drop) (omega arith))
