-- `vector_times` makes its result element after element.
use Rattle.ring.proofs.Cells.{Stored}
use Rattle.ring.proofs.Dots.{times}
use Rattle.ring.proofs.vector_times.Given as goal

abbrev pub invariant-loop-e : goal.invariant-loop-e
invariant-loop-e l = Stored (times l.vector l.matrix l.row l.step) l.count l.e l.initial.out l.out
