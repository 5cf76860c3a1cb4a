-- `uniform_of` reads nine bytes as a high and a low part and folds the high one in.
use native.Mathlib.Omega.{arith}
use Prim.Native.Nat.{ℕ, ◌+◌, ◌*◌, ◌%◌, ◌^◌}
use mathlib.Core.Path.{◌≡◌, ◌∙◌, ap}
use Rattle.field.specs.Field.{P}
use Rattle.lanes.specs.Samplers.{big_endian, uniform}
use Rattle.lanes.proofs.Samplers.{folded}
use Rattle.lanes.proofs.uniform_of.Goals as goal

pub returns : goal.returns
unfolding uniform big_endian
returns c =
    let hi = c.from-hi.result in
    let lo = c.from_be_bytes-lo.result in
    let nine : hi * 2 ^ 64 + lo ≡ big_endian c.args.bytes.now 0 9 = omega (arith, c.from-hi.ensures, c.from_be_bytes-lo.ensures) in
    c.canonical.ensures.0 ∙ c.add_lazy.ensures ∙ folded hi lo ∙ ap (λ (n : ℕ). n % P) nine
