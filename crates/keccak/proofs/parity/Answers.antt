-- `parity` adds the five lanes of a column.
use mathlib.Core.Path.{refl}
use Rattle.keccak.specs.Lanes.{parity}
use Rattle.keccak.proofs.parity.Goals as goal

pub returns : goal.returns
unfolding parity
returns c = refl
