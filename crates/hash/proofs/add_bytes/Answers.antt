-- `add_bytes` has added i bytes after i turns.
use borrow.Author.Rules.{rules}
use native.Mathlib.Omega.{arith}
use Rattle.hash.specs.Running.{xor_bytes}
use Rattle.hash.proofs.Words.{xor_more}
use Rattle.hash.proofs.add_bytes.Goals as goal

pub loop-i-init : goal.loop-i-init
unfolding xor_bytes
loop-i-init c = search rules

pub loop-i-preserved : goal.loop-i-preserved
loop-i-preserved c =
    (omega arith, xor_more _ _ _ _ _ _ c.loop-i-test.true c.loop-i.invariant.1 c.add_byte.ensures)
