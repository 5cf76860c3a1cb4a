-- `remove_mask` takes b·G·a off.
use borrow.Author.Rules.{rules}
use native.Mathlib.Omega.{arith}
use mathlib.Core.Path.{refl}
use lib.Dec.{lit<}
use Rattle.codec.specs.Sizes.{ciphertext_numbers}
use Rattle.field.specs.Field.{P}
use Rattle.ring.proofs.Products.{minus-canonical}
use Rattle.ring.proofs.Matrices.{matrix-canonical}
use Rattle.packets.specs.Parameters.{vector_numbers}
use Rattle.packets.proofs.Canonical.{part_below}
use Rattle.seal.proofs.Vectors.{told-canonical}
use Rattle.seal.proofs.remove_mask.Goals as goal

pub row_times_column-requires : goal.row_times_column-requires
row_times_column-requires c =
    (part_below P 0 vector_numbers ciphertext_numbers _ (lit< tt) (omega arith) c.args.ciphertext.canonical, c.args.a.now.canonical, refl)

pub sub-requires : goal.sub-requires
sub-requires c = (
  part_below P vector_numbers 64 ciphertext_numbers _ (lit< tt) (omega arith) c.args.ciphertext.canonical,
  told-canonical c.row_times_column.ensures (matrix-canonical 1 4 1 _ _),
  search rules,
)

pub coset_intt_noswap_64-requires : goal.coset_intt_noswap_64-requires
coset_intt_noswap_64-requires c = told-canonical c.sub.ensures (minus-canonical 64 _ _)
