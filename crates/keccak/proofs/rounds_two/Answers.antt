-- `rounds_two` has done a round of both states for each constant that it has passed.
use borrow.Author.Rules.{rules}
use native.Mathlib.Omega.{arith}
use mathlib.Core.Path.{sym}
use Rattle.keccak.proofs.Constants.{numbers, constants-numbers}
use Rattle.keccak.proofs.Interleaved.{both_none, both_more, both-all}
use Rattle.keccak.proofs.rounds_two.Goals as goal

pub loop-c-init : goal.loop-c-init
unfolding numbers
loop-c-init c = (search rules, search rules, both_none _, sym constants-numbers)

pub loop-c-preserved : goal.loop-c-preserved
loop-c-preserved c =
    let at = c.loop-c.invariant in
    (search rules, search rules, both_more _ _ _ _ _ (omega arith) at.3 at.2 c.both.ensures, at.3)

pub returns : goal.returns
returns c = both-all _ _ _ (omega arith) c.loop-c.invariant.2
