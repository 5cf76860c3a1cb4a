-- `bench_dec` tells what `dec` gives as a flag beside a buffer.
use mathlib.Core.Path.{◌∙◌}
use Rattle.packets.proofs.Keys.{opens_with, opens-not}
use Rattle.bench.proofs.bench_dec.Goals as goal

pub returns-in-Some : goal.returns-in-Some
returns-in-Some c =
    let told = opens_with _ _ c.args.shared.now c.in-Some.ensures in
    (told.0, c.copy_from_slice.ensures.after ∙ told.1)

pub returns-in-None : goal.returns-in-None
returns-in-None c = opens-not _ _ c.in-None.ensures
