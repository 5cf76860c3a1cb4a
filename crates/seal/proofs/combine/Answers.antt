-- `combine` multiplies and adds.
use Rattle.ring.proofs.Matrices.{matrix-canonical}
use Rattle.ring.proofs.Products.{plus-canonical}
use Rattle.packets.specs.Parameters.{vector_numbers}
use Rattle.seal.proofs.Vectors.{told-canonical, addable, sum_of}
use Rattle.seal.proofs.combine.Goals as goal

pub add_assign-requires : goal.add_assign-requires
add_assign-requires c = addable c.matrix_times_column.ensures (matrix-canonical 4 4 1 _ _) c.args.key.now.right.canonical

pub invariant_of-ga : goal.invariant_of-ga
invariant_of-ga c =
    let sum = sum_of _ c.add_assign.ensures c.matrix_times_column.ensures (matrix-canonical 4 4 1 _ _) in
    record { canonical = told-canonical sum (plus-canonical vector_numbers _ _) }
