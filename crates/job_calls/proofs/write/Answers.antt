-- `write` stores the byte and copies both parts behind it.
use Rattle.job_calls.proofs.Fronts.{wrote, no_room}
use Rattle.job_calls.proofs.write.Goals as goal

pub returns-then-n-out : goal.returns-then-n-out
returns-then-n-out c =
    let a = c.args in
    wrote a.head a.first.now _ a.second.now _ a.out.now c.copy_from_slice.ensures.after c.copy_from_slice-then-n-out.ensures.after c.if-n-out.true

pub returns-else-n-out : goal.returns-else-n-out
returns-else-n-out c =
    let a = c.args in
    no_room a.head a.first.now a.second.now a.out.now c.if-n-out.false
