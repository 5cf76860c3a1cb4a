-- `to_p_minus_2` gives that power: each step of the chain, and the exponent it has come to.
use Rattle.std.proofs.Common.{◌≡◌, ℕ, ◌+◌, ◌-◌, ◌*◌, ◌%◌, ◌^◌, ◌∙◌}
use Rattle.laws.proofs.Powers.{append_powers, mul_powers, first_power}
use Rattle.field.specs.Field.{P}
use Rattle.field.proofs.Elements.{num_lt}
use Rattle.field.proofs.BFieldElement.to_p_minus_2.Goals as goal

-- e is the power n of x
record Power (x : ℕ) (e : ℕ) (n : ℕ) : Type 0 where
  is : e ≡ (x ^ n) % P

module _ {x a b : ℕ} {e f r : ℕ} where
  appended : (n : ℕ) → r ≡ (e ^ (2 ^ n) * f) % P → Power x e a → Power x f b → Power x r (a * 2 ^ n + b)
  appended n s g h = record { is = s ∙ append_powers P x a b (2 ^ n) e f g.is h.is }

  multiplied : r ≡ (e * f) % P → Power x e a → Power x f b → Power x r (a + b)
  multiplied s g h = record { is = s ∙ mul_powers P x a b e f g.is h.is }

pub returns : goal.returns
returns c =
    let x = c.args.self in
    let one : Power x x 1 = record { is = rw (← c.self.view_is) (first_power P _ (num_lt c.self.inside)) } in
    let ones_2 : Power x c.append-bin_2_ones.result (2 ^ 2 - 1) = appended 1 c.append-bin_2_ones.ensures one one in
    let ones_3 : Power x c.append-bin_3_ones.result (2 ^ 3 - 1) = appended 1 c.append-bin_3_ones.ensures ones_2 one in
    let ones_6 : Power x c.append-bin_6_ones.result (2 ^ 6 - 1) = appended 3 c.append-bin_6_ones.ensures ones_3 ones_3 in
    let ones_12 : Power x c.append-bin_12_ones.result (2 ^ 12 - 1) = appended 6 c.append-bin_12_ones.ensures ones_6 ones_6 in
    let ones_24 : Power x c.append-bin_24_ones.result (2 ^ 24 - 1) = appended 12 c.append-bin_24_ones.ensures ones_12 ones_12 in
    let ones_30 : Power x c.append-bin_30_ones.result (2 ^ 30 - 1) = appended 6 c.append-bin_30_ones.ensures ones_24 ones_6 in
    let ones_31 : Power x c.append-bin_31_ones.result (2 ^ 31 - 1) = appended 1 c.append-bin_31_ones.ensures ones_30 one in
    let ones_31_zero : Power x c.mul-bin_31_ones_1_zero.result (2 ^ 32 - 2) = multiplied c.mul-bin_31_ones_1_zero.ensures ones_31 ones_31 in
    let ones_32 : Power x c.mul-bin_32_ones.result (2 ^ 32 - 1) = multiplied c.mul-bin_32_ones.ensures ones_31_zero one in
    let last : Power x c.append.result (P - 2) = appended 32 c.append.ensures ones_31_zero ones_32 in
    last.is
