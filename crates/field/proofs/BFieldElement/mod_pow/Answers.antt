-- `mod_pow` gives the power. The loop's invariant: acc stands for the power to the exponent's digits from the place `digit` on.
use Rattle.std.proofs.Common.{◌≡◌, ℕ, suc, ◌-◌, ◌/◌, ◌%◌, ◌^◌, ◌∙◌, arith, rules}
use native.Mathlib.Nat.{pow-zero}
use Rattle.laws.proofs.Powers.{above, digit_0, digit_1}
use Rattle.field.specs.Field.{P}
use Rattle.field.proofs.Elements.{num_lt}
use Rattle.field.proofs.BFieldElement.mod_pow.Goals as goal
use Rattle.field.proofs.BFieldElement.mod_pow.Goals.{After-mul-acc}

-- what acc stands for where it is squared, by the next place's name
before_square : (c : After-mul-acc) → c.loop-digit.acc ≡ (c.args.self ^ (c.args.exp / 2 ^ suc (c.loop-digit.digit - 1))) % P
before_square c = let e : c.loop-digit.digit ≡ suc (c.loop-digit.digit - 1) = omega arith in rw e at c.loop-digit.invariant

even : (n : ℕ) → (n % 2 ≡ 1 → ⊥) → n % 2 ≡ 0
even n h = grind arith

pub loop-digit-init : goal.loop-digit-init
loop-digit-init c = c.new-acc.ensures ∙ rw (above 64 c.args.exp (search rules), pow-zero)

pub loop-digit-preserved-then-is_one : goal.loop-digit-preserved-then-is_one
loop-digit-preserved-then-is_one c =
    let n = c.args in
    c.mul-acc-then-is_one.ensures
    ∙ digit_1 P n.self n.exp (c.loop-digit.digit - 1) c.loop-digit.acc c.mul-acc.result
    (before_square (goal.at.loop-digit-preserved-then-is_one c).After-mul-acc) c.mul-acc.ensures
    (rw (← c.self.view_is) (num_lt c.self.inside)) c.if-is_one.true

pub loop-digit-preserved : goal.loop-digit-preserved
loop-digit-preserved c =
    let n = c.args in
    digit_0 P n.self n.exp (c.loop-digit.digit - 1) c.loop-digit.acc c.mul-acc.result
    (before_square (goal.at.loop-digit-preserved c).After-mul-acc) c.mul-acc.ensures (even _ c.if-is_one.false)
