-- `load` reads eight bytes: std's number of them is the number of eight digits in base 256.
use native.Mathlib.Nat.{add-zero}
use native.Mathlib.Omega.{arith}
use Prim.Native.Nat.{ℕ}
use mathlib.Core.Path.{ap}
use lib.ListN.{get_or}
use Rattle.laws.specs.Sums.{total}
use Rattle.laws.specs.Digits.{number}
use Rattle.codec.specs.Layout.{word}
use Rattle.codec.proofs.load.Goals as goal

pub returns : goal.returns
unfolding word number total
returns c =
    let n = c.args in
    omega (arith, c.from_le_bytes.ensures, ap (λ (k : ℕ). get_or n.s.now k 0) (add-zero n.at))
