-- `sample_uniforms` draws as many uniform coefficients as there is room for. The loop's invariant: the first k are drawn.
use Prim.Native.Nat.{◌*◌, ◌-◌, ◌≤◌}
use mathlib.Core.Path.{◌≡◌}
use lib.ListN.{length}
use Rattle.laws.proofs.Updates.{Filled}
use Rattle.lanes.specs.Samplers.{uniform}
use Rattle.lanes.proofs.sample_uniforms.Given as goal

abbrev pub invariant-loop-k : goal.invariant-loop-k
invariant-loop-k l = (l.k ≤ l.k-end) × (l.k-end ≡ length l.initial.out) × Filled (λ k. uniform l.randomness (9 * k)) l.k l.initial.out l.out

abbrev pub decreases-loop-k : goal.decreases-loop-k
decreases-loop-k l = l.k-end - l.k
