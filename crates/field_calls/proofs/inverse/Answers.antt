-- `inverse` answers as it is judged, and refuses 0 and gives the inverse of any other number where nothing is wrong.
use Rattle.std.proofs.Common.{rules}
use Rattle.refusals.proofs.Inverses.{zero-refused, inverse_done}
use Rattle.field_calls.proofs.inverse.Goals as goal

pub returns-in_default : goal.returns-in_default
returns-in_default c = zero-refused _ _ _ c.in_ok-judge_value.ensures.answered c.new.ensures c.inverse.ensures c.in_default.is

pub returns : goal.returns
returns c =
    inverse_done _ _ _ c.in_ok-judge_value.ensures.answered c.new.ensures c.inverse.ensures _ _ c.in-Some.is (search rules)
