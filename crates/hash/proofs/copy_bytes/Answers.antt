-- `copy_bytes` has copied i bytes after i turns.
use borrow.Author.Rules.{rules}
use mathlib.Core.Path.{refl}
use Rattle.laws.proofs.Updates.{mapped_end}
use Rattle.hash.specs.Running.{bytes_from}
use Rattle.hash.proofs.copy_bytes.Goals as goal

pub returns : goal.returns
unfolding bytes_from
returns c = mapped_end _ _ _ _ _ (search rules) refl c.loop-i.invariant.1
