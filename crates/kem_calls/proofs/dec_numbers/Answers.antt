-- `dec_numbers` answers as it is judged, and then as opening does.
use Rattle.std.proofs.Common.{sym, ◌∙◌, rules}
use Rattle.std.proofs.lemmas.List.{set-get_or}
use Rattle.std.proofs.lemmas.Result.{err_from_is_err_and}
use Rattle.refusals.proofs.Calls.{refusal_or}
use Rattle.kem_calls.proofs.Verdicts.{opens_done, opens_not}
use Rattle.kem_calls.proofs.dec_numbers.Goals as goal

-- searched for, so that a write of what stood there may come between: its edit in tests/slips is refused for its zeros, not for writing
pub returns-in_err-key : goal.returns-in_err-key
returns-in_err-key c =
    let none = c.in_err-key.ensures.ok_part in
    let three = refusal_or _ _ _ none c.in_err-key.ensures.value in
    let p = err_from_is_err_and c.from_residual-in_err-key.result c.from_residual-in_err-key.ensures.1 in
    let no_key = sym none ∙ c.dec.ensures in
    rw (p.1, p.2, three) (opens_not _ _ _ _ c.in_ok-judge_dec_numbers.ensures.answered no_key (search (rules, set-get_or)))

pub returns : goal.returns
returns c =
    opens_done _ _ _ _ _ c.in_ok-judge_dec_numbers.ensures.answered (sym c.in_ok-key.ensures.ok_part ∙ c.dec.ensures) c.copy_from_slice.ensures.after
