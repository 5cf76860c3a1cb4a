-- `matrix_times_column` is the matrix product of its shape.
use borrow.Author.Rules.{rules}
use Rattle.ring.proofs.Matrices.{matrix_column_flat}
use Rattle.ring.proofs.matrix_times_column.Goals as goal

pub returns : goal.returns
returns c = search (rules, matrix_column_flat)
