-- `chunk_bit` is the rule of the two thresholds.
use native.Mathlib.Omega.{arith}
use mathlib.Core.Path.{sym}
use borrow.Author.Rules.{rules}
use Rattle.lanes.proofs.Messages.{chunk_bit_low, chunk_bit_middle, chunk_bit_high}
use Rattle.lanes.proofs.chunk_bit.Goals as goal

pub returns-then-chunk : goal.returns-then-chunk
returns-then-chunk c = (sym (chunk_bit_low _ (omega arith)), search rules)

pub returns-then-chunk-2 : goal.returns-then-chunk-2
returns-then-chunk-2 c = (sym (chunk_bit_high _ (omega arith)), search rules)

pub returns-else-chunk-2 : goal.returns-else-chunk-2
returns-else-chunk-2 c = (sym (chunk_bit_middle _ (omega arith) (omega arith)), search rules)
