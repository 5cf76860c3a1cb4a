-- `put_lanes` has put i lanes after i turns.
use borrow.Author.Rules.{rules}
use native.Mathlib.Omega.{arith}
use Rattle.keccak.proofs.Interleaved.{put_all}
use Rattle.keccak.proofs.put_lanes.Goals as goal

pub returns : goal.returns
returns c = put_all _ _ _ _ _ (search rules) (omega arith) c.loop-i.invariant.1
