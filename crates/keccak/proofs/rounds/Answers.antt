-- `rounds` has done four rounds of the complemented state for each four of constants that it has passed.
use borrow.Author.Rules.{rules}
use native.Mathlib.Omega.{arith}
use mir.Syntax.{w64}
use Rattle.laws.proofs.Arrays.{array_below}
use Rattle.keccak.proofs.Constants.{numbers, fours}
use Rattle.keccak.proofs.Flips.{below_complemented, kept_none, kept_four, kept_all}
use Rattle.keccak.proofs.rounds.Goals as goal

pub loop-c-init : goal.loop-c-init
unfolding fours numbers
loop-c-init c =
    let fit = array_below w64 25 c.args.a _ c.well_formed.0 in
    (search rules, kept_none _ fit, c.as_chunks.ensures.front, fit)

pub loop-c-preserved : goal.loop-c-preserved
loop-c-preserved c =
    let at = c.loop-c.invariant in (
      search rules,
      kept_four _ (below_complemented _ at.3) _ _ _ _ _ _ _ at.2 (omega arith) at.1 c.round-t.ensures c.round-u.ensures c.round-v.ensures
          c.round-s.ensures,
      at.2,
      at.3,
    )

pub returns : goal.returns
returns c = kept_all _ _ _ (omega arith) c.loop-c.invariant.1
