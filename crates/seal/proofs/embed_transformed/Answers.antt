-- `embed_transformed` embeds and transforms.
use Rattle.ring.proofs.Transforms.{transform-canonical}
use Rattle.lanes.proofs.Messages.{embed-canonical}
use Rattle.seal.proofs.Vectors.{told-canonical}
use Rattle.seal.proofs.embed_transformed.Goals as goal

pub coset_ntt_noswap_64-requires : goal.coset_ntt_noswap_64-requires
coset_ntt_noswap_64-requires c = told-canonical c.embed_msg.ensures (embed-canonical _)

pub invariant_of-out : goal.invariant_of-out
invariant_of-out c = record { canonical = told-canonical c.coset_ntt_noswap_64.ensures (transform-canonical _) }
