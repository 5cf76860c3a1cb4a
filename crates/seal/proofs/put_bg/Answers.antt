-- `put_bg` multiplies and adds.
use Rattle.ring.proofs.Matrices.{matrix-canonical}
use Rattle.seal.proofs.Vectors.{addable}
use Rattle.seal.proofs.put_bg.Goals as goal

pub add_assign-requires : goal.add_assign-requires
add_assign-requires c =
    addable c.row_times_matrix.ensures (matrix-canonical 1 4 4 _ _) c.args.packet.now.right.canonical
