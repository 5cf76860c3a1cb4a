-- `both` has done a round of the states below j.
use borrow.Author.Rules.{rules}
use native.Mathlib.Omega.{arith}
use mathlib.Core.Path.{◌∙◌}
use Rattle.keccak.proofs.Assembly.{whole}
use Rattle.keccak.proofs.Interleaved.{passed_more}
use Rattle.keccak.proofs.both.Goals as goal

pub loop-j-preserved : goal.loop-j-preserved
loop-j-preserved c =
    let at = c.loop-j.invariant in (
      search rules,
      search rules,
      passed_more _ _ _ _ _ _ _ at.0 (omega arith) c.lanes_of-t.ensures (c.round-r.ensures ∙ whole _ _) c.put_lanes.ensures at.2,
    )
