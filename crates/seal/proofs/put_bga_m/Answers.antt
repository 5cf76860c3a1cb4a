-- `put_bga_m` multiplies and adds the transformed embedding.
use Rattle.ring.proofs.Matrices.{matrix-canonical}
use Rattle.seal.proofs.Vectors.{addable}
use Rattle.seal.proofs.put_bga_m.Goals as goal

pub add_assign-requires : goal.add_assign-requires
add_assign-requires c =
    addable c.row_times_column.ensures (matrix-canonical 1 4 1 _ _) c.embed_transformed.new.out.canonical
