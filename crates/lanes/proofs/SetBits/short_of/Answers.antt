-- `short_of` takes the second number from the first.
use mathlib.Core.Path.{◌∙◌}
use Rattle.lanes.proofs.Samplers.{short_halves}
use Rattle.lanes.proofs.SetBits.short_of.Goals as goal

pub returns : goal.returns
returns c =
    let s = c.split_at.ensures in
    let second = c.counted-2.ensures in
    c.sub_mod_p.ensures.0 ∙ short_halves _ _ _ _ _ _ s.front s.back c.counted.ensures.0 second.0 second.1
