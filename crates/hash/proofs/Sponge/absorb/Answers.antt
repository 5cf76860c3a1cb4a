-- `absorb` feeds what the block has room for, and then block by block.
use native.Mathlib.Omega.{arith}
use Prim.Native.Nat.{ℕ}
use mathlib.Core.Path.{sym, ◌∙◌, ap, ap₂}
use mathlib.Core.List.{◌++◌}
use lib.ListN.{take-append-drop, length, length-append}
use Rattle.std.proofs.lemmas.List.{nil_from_length}
use Rattle.std.specs.Slice.Iter.{chunks_rest, chunks_size}
use Rattle.std.specs.declared.slice.Chunks.{Chunks}
use Rattle.hash.specs.Running.{Running, feed}
use Rattle.hash.proofs.Cuts.{feed-append, feed_full}
use Rattle.hash.proofs.Sponge.absorb.Goals as goal

pub loop-block-init : goal.loop-block-init
loop-block-init c =
    let rate = c.args.rate.bytes in
    let old = c.args.self.now in
    let now = c.split_at.result.0.now in
    let it = c.into_iter-block-iterator in
    let later = ap (λ (s : Chunks ℕ). chunks_rest s) it.ensures.into_iter_gives ∙ c.chunks-block-items.ensures.rest in
    let at = ap (λ (s : Running). s.at) c.self.view_is in
    record {
      whole = ap (λ (s : Chunks ℕ). chunks_size s) it.ensures.into_iter_gives ∙ c.chunks-block-items.ensures.size;
      within = c.add.ensures.upper_bound;
      begun = λ some.
          ap (λ (s : Running). s.at) c.add.ensures.fed
          ∙ feed_full rate old now c.requires
          (omega (arith, some, at, ap length later, c.min-room.ensures, c.split_at.ensures.front_len, c.split_at.ensures.back_len, c.requires));
      fed =
          ap (λ (s : Running). feed rate s (chunks_rest it.result)) c.add.ensures.fed ∙ ap (feed rate (feed rate old now)) later
          ∙ sym (feed-append rate old now c.split_at.result.1.now)
          ∙ ap (feed rate old) (ap₂ ◌++◌ c.split_at.ensures.front c.split_at.ensures.back ∙ take-append-drop c.min-room.result c.args.part.now);
    }

pub loop-block-preserved : goal.loop-block-preserved
loop-block-preserved c =
    let l = c.loop-block in
    let rate = c.args.rate.bytes in
    let block = c.in-Some.block.now in
    let later = chunks_rest c.next.new.self in
    let steps = c.in-Some.ensures.steps in
    let fed = c.add-in-loop-block.ensures.fed in
    let cut = ap length steps.1.0 ∙ length-append block later in
    record {
      whole = steps.0 ∙ l.invariant.whole;
      within = c.add-in-loop-block.ensures.upper_bound;
      begun = λ some.
          ap (λ (s : Running). s.at) fed
          ∙ feed_full rate l.self block l.invariant.within (omega (arith, some, cut, steps.1.1, l.invariant.whole, l.invariant.begun steps.1.2));
      fed =
          ap (λ (s : Running). feed rate s later) fed ∙ sym (feed-append rate l.self block later) ∙ ap (feed rate l.self) (sym steps.1.0)
          ∙ l.invariant.fed;
    }

pub returns-clause-fed : goal.returns-clause-fed
unfolding feed
returns-clause-fed c =
    let l = c.loop-block in
    let none = nil_from_length (chunks_rest l.block-iterator) c.in-None.ensures.steps.1.0 in
    sym (ap (feed c.args.rate.bytes l.self) none) ∙ l.invariant.fed
