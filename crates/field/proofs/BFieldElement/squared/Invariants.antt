-- `squared` raises to the power 2 ^ times. The loop's invariant: after so many turns res stands for the 2 ^ that th power.
use Rattle.std.proofs.Common.{◌≡◌, ◌%◌, ◌^◌}
use Rattle.field.specs.Field.{P}
use Rattle.field.proofs.BFieldElement.squared.Given as goal

abbrev pub invariant-loop : goal.invariant-loop
invariant-loop l = l.res ≡ (l.fn.self ^ (2 ^ l.counter)) % P
