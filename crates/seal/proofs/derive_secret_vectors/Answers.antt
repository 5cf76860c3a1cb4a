-- `derive_secret_vectors` draws from two streams in step, and makes vectors of the second.
use mathlib.Core.Path.{ap, ◌∙◌}
use mathlib.Core.List.{List}
use Prim.Native.Nat.{ℕ}
use lib.ListN.{take}
use Rattle.laws.specs.Lists.{part}
use Rattle.ring.specs.Matrices.{transforms}
use Rattle.lanes.specs.Samplers.{ones, shorts}
use Rattle.packets.specs.Parameters.{vector_numbers, vector_bytes, vectors_bytes}
use Rattle.packets.specs.Packets.{first, second}
use Rattle.seal.proofs.derive_secret_vectors.Goals as goal

pub returns : goal.returns
unfolding first second
returns c =
    let both = c.squeeze_two.ensures in
    let bytes = both.drawn_2.bytes ∙ c.of-beside.ensures.0.bytes vectors_bytes in (
      both.drawn.bytes,
      both.drawn.left,
      record {
        left_is = c.sample_vector.ensures ∙ ap (λ (l : List ℕ). transforms 4 (shorts ones vector_numbers (take vector_bytes l))) bytes;
        right_is =
            c.sample_vector-2.ensures
            ∙ ap (λ (l : List ℕ). transforms 4 (shorts ones vector_numbers (part vector_bytes vector_bytes l))) bytes;
      },
    )

pub invariant_of-stream : goal.invariant_of-stream
invariant_of-stream c = record { place = c.squeeze_two.ensures.drawn.place }
