-- `absorb`: what is still to be fed gives what feeding all of it gives.
use Rattle.std.proofs.Common.{◌≡◌, ◌<◌, length}
use Rattle.std.specs.Slice.Iter.{chunks_rest, chunks_size}
use Rattle.hash.specs.Running.{feed}
use Rattle.hash.proofs.Sponge.absorb.Given as goal

abbrev pub invariant-loop-block : goal.invariant-loop-block
invariant-loop-block l = record {
  whole : chunks_size l.block-iterator ≡ l.rate.bytes;
  within : l.self.at < l.rate.bytes;
  begun : 0 < length (chunks_rest l.block-iterator) → l.self.at ≡ 0;
  fed : feed l.rate.bytes l.self (chunks_rest l.block-iterator) ≡ feed l.rate.bytes l.fn.self l.fn.part;
}
