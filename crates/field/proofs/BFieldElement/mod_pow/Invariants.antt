-- `mod_pow` gives the power. The loop's invariant: acc stands for the power to the exponent's digits from the place `digit` on.
use Rattle.std.proofs.Common.{◌≡◌, ◌/◌, ◌%◌, ◌^◌}
use Rattle.field.specs.Field.{P}
use Rattle.field.proofs.BFieldElement.mod_pow.Given as goal

abbrev pub invariant-loop-digit : goal.invariant-loop-digit
invariant-loop-digit l = l.acc ≡ (l.fn.self ^ (l.fn.exp / 2 ^ l.digit)) % P
