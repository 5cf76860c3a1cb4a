-- The last step of `judge_dec` tells what `judged` does after those before it.
use native.Mathlib.Omega.{arith}
use Rattle.refusals.specs.Judgement.{judged}
use Rattle.refusals.proofs.Steps.{next}
use Rattle.refusals.proofs.Calls.{judges}
use Rattle.kem_calls.proofs.judge_dec.Goals as goal

pub returns : goal.returns
unfolding judged
returns c = judges _ _ (grind (arith, next))
