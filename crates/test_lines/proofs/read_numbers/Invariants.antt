-- What was read is canonical.
use Rattle.std.proofs.Common.{ℕ, ◌<◌, get_or}
use Rattle.field.specs.Field.{P}
use Rattle.test_lines.proofs.read_numbers.Given as goal

abbrev pub invariant-loop-x : goal.invariant-loop-x
invariant-loop-x l = (j : ℕ) → j < l.x-index → get_or l.out j 0 < P
