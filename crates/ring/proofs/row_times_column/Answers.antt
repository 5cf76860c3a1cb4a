-- `row_times_column` is the matrix product of its shape.
use borrow.Author.Rules.{rules}
use Rattle.ring.proofs.Matrices.{matrix_row_flat}
use Rattle.ring.proofs.row_times_column.Goals as goal

pub returns : goal.returns
returns c = search (rules, matrix_row_flat)
