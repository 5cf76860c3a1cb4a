-- `each_place` makes one number after another.
use Prim.Native.Nat.{◌≤◌}
use lib.ListN.{length, get_or}
use Rattle.ring.proofs.Places.{Placed}
use Rattle.ring.proofs.each_place.Given as goal

abbrev pub invariant-loop-k : goal.invariant-loop-k
invariant-loop-k g l = (l.k ≤ length l.initial.array) × Placed (λ j y. goal.F-post g l.f j (get_or l.initial.array j 0) y) l.k l.initial.array l.array
