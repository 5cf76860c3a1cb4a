-- `lift` puts four bits at the top of their lanes.
use native.Mathlib.Omega.{arith}
use Prim.Native.Nat.{ℕ, ◌+◌, ◌*◌, ◌/◌, ◌%◌, ◌^◌}
use mathlib.Core.Path.{◌≡◌, sym, ap, ◌∙◌}
use native.Mathlib.Nat.{div-one}
use Rattle.laws.specs.Bits.{bit}
use Rattle.lanes.specs.FourLanes.{placed}
use Rattle.lanes.specs.Messages.{lifted}
use Rattle.lanes.proofs.lift.Goals as goal

-- a bit at the top of each lane
tops : (b0 b1 b2 b3 : ℕ)
    → b0 * 0x8000 + b1 * 0x8000_0000 + b2 * 0x8000_0000_0000 + b3 * 0x8000_0000_0000_0000
    ≡ placed (2 ^ 15 * b0) (2 ^ 15 * b1) (2 ^ 15 * b2) (2 ^ 15 * b3)
tops b0 b1 b2 b3 = omega arith

pub returns : goal.returns
unfolding lifted bit
returns c =
    let b = c.args.b in
    tops (b % 2) (b / 2 % 2) (b / 4 % 2) (b / 8 % 2)
    ∙ ap (λ (n : ℕ). placed (2 ^ 15 * (n % 2)) (2 ^ 15 * (b / 2 % 2)) (2 ^ 15 * (b / 4 % 2)) (2 ^ 15 * (b / 8 % 2))) (sym (div-one b))
