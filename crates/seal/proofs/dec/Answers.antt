-- `dec` gives what opening gives.
use mathlib.Core.Path.{ap, ◌∙◌}
use Rattle.std.specs.Prelude.{Some, option_map}
use Rattle.hash.specs.Fips202.{sha3_256}
use Rattle.packets.specs.Packets.{dec}
use Rattle.seal.proofs.Compare.{key_by}
use Rattle.seal.proofs.dec.Goals as goal

pub returns-in_err-payload : goal.returns-in_err-payload
unfolding dec
returns-in_err-payload c = c.from_residual.ensures ∙ ap (option_map sha3_256) c.in_err-payload.ensures ∙ key_by sha3_256 _ _

pub returns : goal.returns
unfolding dec
returns c = ap Some c.sha3_256.ensures ∙ ap (option_map sha3_256) c.in_ok-payload.ensures ∙ key_by sha3_256 _ _
