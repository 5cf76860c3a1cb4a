-- `add_part` adds whole lanes and then bytes; or bytes alone.
use native.Mathlib.Omega.{arith}
use Prim.Native.Nat.{ℕ, ◌+◌, ◌*◌, ◌≤◌, ◌/◌, ◌%◌}
use mathlib.Core.Path.{◌≡◌, refl, ap, ◌∙◌}
use mathlib.Core.List.{List, []}
use lib.Bits.{bit_xor}
use lib.ListN.{length, get_or, set, take, drop}
use Rattle.std.specs.Int.{from_le_bytes, w64}
use Rattle.codec.specs.Layout.{word}
use Rattle.codec.proofs.Layouts.{word_of_chunk}
use Rattle.hash.specs.Running.{xor_bytes}
use Rattle.hash.proofs.Words.{xor_lane_more, xor_two_parts}
use Rattle.hash.proofs.add_part.Goals as goal

pub loop-i-init : goal.loop-i-init
unfolding xor_bytes
loop-i-init c = refl

pub loop-i-preserved : goal.loop-i-preserved
loop-i-preserved c =
    let args = c.args in
    let part = args.part.now in
    let l = c.loop-i in
    let v = c.from_le_bytes.result in
    let lane : args.at / 8 + l.i ≡ (args.at + 8 * l.i) / 8 = omega (arith, c.if-at-eq0.true) in
    let whole : (args.at + 8 * l.i) % 8 ≡ 0 = omega (arith, c.if-at-eq0.true) in
    let room : 8 * l.i + 8 ≤ length part = omega (arith, c.loop-i-test.true, c.as_chunks.ensures.front_len) in
    let next : 8 * l.i + 8 ≡ 8 * (l.i + 1) = omega arith in
    let is : v ≡ word part (8 * l.i) =
    c.from_le_bytes.ensures ∙ ap (λ (ws : List (List ℕ)). from_le_bytes w64 (get_or ws l.i [])) c.as_chunks.ensures.front
    ∙ word_of_chunk (length part / 8) l.i part [] (omega arith) in
    ap (λ (k : ℕ). set l.lanes k (bit_xor (get_or l.lanes k 0) v)) lane
    ∙ xor_lane_more args.lanes.now l.lanes part args.at (8 * l.i) v whole room (λ k. (c.type_inv.part k).fits) is l.invariant
    ∙ ap (λ (k : ℕ). xor_bytes args.lanes.now args.at (take k part)) next

pub returns-after-loop-i : goal.returns-after-loop-i
returns-after-loop-i c =
    let args = c.args in
    let part = args.part.now in
    let words = length c.as_chunks.result.0.now in
    let within : 8 * words ≤ length part = omega (arith, c.as_chunks.ensures.front_len) in
    let cut : length part / 8 * 8 ≡ 8 * words = omega (arith, c.as_chunks.ensures.front_len) in
    let all : c.loop-i.i ≡ words = omega (arith, c.loop-i-test.false, c.loop-i.auto.i-end) in
    xor_two_parts _ _ _ _ _ part _ (8 * words) within refl (c.as_chunks.ensures.back ∙ ap (λ (k : ℕ). drop k part) cut)
    (c.loop-i.invariant ∙ ap (λ (k : ℕ). xor_bytes args.lanes.now args.at (take (8 * k) part)) all) c.add_bytes.ensures
