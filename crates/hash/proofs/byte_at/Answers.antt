-- `byte_at` reads one byte of the lanes.
use mathlib.Core.Path.{refl}
use Rattle.hash.specs.Running.{byte_of}
use Rattle.hash.proofs.byte_at.Goals as goal

pub returns : goal.returns
unfolding byte_of
returns c = refl
