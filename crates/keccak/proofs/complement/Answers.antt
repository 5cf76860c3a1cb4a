-- `complement` has complemented the first lanes that `over` names.
use borrow.Author.Rules.{rules}
use native.Mathlib.Omega.{arith}
use mathlib.Core.Path.{◌≡◌, refl, ap, ◌∙◌}
use Prim.Native.Nat.{ℕ}
use mir.Syntax.{w64}
use Rattle.laws.proofs.Arrays.{array_below}
use Rattle.keccak.proofs.Flips.{places, first_flipped, all_flipped}
use Rattle.keccak.proofs.complement.Goals as goal

pub loop-i-init : goal.loop-i-init
unfolding places
loop-i-init c = (search rules, refl, refl)

pub returns : goal.returns
returns c =
    let lanes = array_below w64 25 c.args.a _ c.well_formed.0 in
    let end : c.loop-i.i-index ≡ 6 = omega arith in
    c.loop-i.invariant.2 ∙ ap (λ (n : ℕ). first_flipped n c.args.a) end ∙ all_flipped _ lanes.size
