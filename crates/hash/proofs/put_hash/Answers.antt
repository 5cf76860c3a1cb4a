-- `put_hash` feeds and draws.
use mathlib.Core.Path.{◌∙◌, ap}
use lib.ListN.{length}
use Rattle.hash.specs.Running.{drawn, hashed}
use Rattle.hash.proofs.put_hash.Goals as goal

pub returns : goal.returns
unfolding hashed
returns c =
    let args = c.args in
    c.squeeze.ensures.drawn ∙ ap (drawn args.rate.bytes (length args.output.now)) c.fed-sponge.ensures.closed
