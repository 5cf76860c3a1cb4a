-- `extract_msg` fills the payload. The loop's invariant: the first i bytes are read.
use native.Mathlib.Omega.{arith}
use mathlib.Core.Path.{◌≡◌}
use Rattle.laws.proofs.Updates.{mapped_all, mapped_at}
use Rattle.lanes.specs.Messages.{extract}
use Rattle.lanes.proofs.extract_msg.Goals as goal

pub returns : goal.returns
unfolding extract
returns c =
    let e : c.loop-i.i ≡ 32 = omega arith in
    mapped_all _ 32 c.args.out.now c.loop-i.out c.requires.1 (mapped_at e c.loop-i.invariant.1)
