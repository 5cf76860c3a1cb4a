-- `next_block` permutes where both want bytes, and then nobody sees it.
use native.Mathlib.Omega.{arith}
use Rattle.hash.proofs.Steps.{alike_turned}
use Rattle.hash.proofs.next_block.Goals as goal

pub returns-then-min-gt0-clause-alike : goal.returns-then-min-gt0-clause-alike
returns-then-min-gt0-clause-alike c = alike_turned _ _ _ _ (omega arith) (omega arith) c.permute_two.ensures.left

pub returns-then-min-gt0-clause-alike_2 : goal.returns-then-min-gt0-clause-alike_2
returns-then-min-gt0-clause-alike_2 c = alike_turned _ _ _ _ (omega arith) (omega arith) c.permute_two.ensures.right
