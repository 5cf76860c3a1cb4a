-- `rounds` has done four rounds of the complemented state for each four of constants that it has passed.
use Prim.Native.Nat.{◌*◌, ◌≤◌, ◌^◌}
use mathlib.Core.Path.{◌≡◌}
use Rattle.laws.specs.Lists.{Below}
use Rattle.keccak.specs.Lanes as L
use Rattle.keccak.specs.Complement.{complemented}
use Rattle.keccak.proofs.Constants.{fours}
use Rattle.keccak.proofs.rounds.Given as goal

abbrev pub invariant-loop-c : goal.invariant-loop-c
invariant-loop-c l =
    (l.c-index ≤ 6) × (l.s ≡ complemented (L.rounds (4 * l.c-index) (complemented l.initial.s))) × (l.fours ≡ fours)
    × Below (2 ^ 64) 25 l.initial.s
