-- `sample_vector` samples and transforms.
use mathlib.Core.Path.{◌≡◌, ap, ◌∙◌}
use Prim.Native.Nat.{ℕ}
use Rattle.ring.proofs.Cells.{transforms-canonical}
use Rattle.lanes.specs.Samplers.{ones, shorts}
use Rattle.lanes.proofs.Samplers.{shorts-canonical}
use Rattle.packets.specs.Parameters.{vector_numbers}
use Rattle.seal.proofs.Vectors.{told-canonical}
use Rattle.seal.proofs.sample_vector.Goals as goal
use Rattle.seal.proofs.sample_vector.Goals.{After-sample_shorts}

sampled : (c : After-sample_shorts) → c.sample_shorts.new.out ≡ shorts ones vector_numbers c.args.bytes.now
sampled c = c.sample_shorts.ensures ∙ ap (λ (n : ℕ). shorts ones n c.args.bytes.now) c.args.out.now.canonical.size

pub coset_ntt_noswap_four-requires : goal.coset_ntt_noswap_four-requires
coset_ntt_noswap_four-requires c =
    told-canonical (sampled (goal.at.coset_ntt_noswap_four-requires c).After-sample_shorts) (shorts-canonical ones vector_numbers _)

pub invariant_of-out : goal.invariant_of-out
invariant_of-out c = record { canonical = told-canonical c.coset_ntt_noswap_four.ensures (transforms-canonical 4 _) }
