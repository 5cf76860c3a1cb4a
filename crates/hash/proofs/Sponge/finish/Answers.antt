-- `finish` adds the suffix's byte and the last bit.
use mathlib.Core.Path.{refl}
use Rattle.hash.specs.Running.{closed}
use Rattle.hash.proofs.Sponge.finish.Goals as goal

pub returns-clause-closed : goal.returns-clause-closed
unfolding closed
returns-clause-closed c = rw (c.add_byte-2.ensures, c.add_byte.ensures, ← c.self.view_is) refl
