-- `read_bits` takes the bits of the four chunks of a coefficient.
use native.Mathlib.Omega.{arith}
use Prim.Native.Nat.{ℕ, ◌+◌, ◌*◌, ◌%◌, ◌^◌}
use mathlib.Core.Path.{sym, ◌∙◌, ap}
use Rattle.lanes.specs.Messages.{chunk_bit, read}
use native.Mathlib.Nat.{div-one}
use Rattle.lanes.proofs.read_bits.Goals as goal

pub returns : goal.returns
unfolding read
returns c =
    let v = c.args.v in
    let b0 = c.chunk_bit.ensures.0 ∙ ap (λ (n : ℕ). chunk_bit (n % 2 ^ 16)) (sym (div-one v)) in
    let b1 = c.chunk_bit-2.ensures.0 in
    let b2 = c.chunk_bit-3.ensures.0 in
    let b3 = c.chunk_bit-4.ensures.0 in
    (λ i. b0 i + 2 * b1 i + 4 * b2 i + 8 * b3 i, omega arith)
