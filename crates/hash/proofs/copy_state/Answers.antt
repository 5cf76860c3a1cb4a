-- `copy_state` has copied i lanes after i turns.
use native.Mathlib.Omega.{arith}
use Prim.Native.Nat.{◌+◌, ◌*◌, ◌≤◌}
use mathlib.Core.Path.{◌≡◌}
use lib.ListN.{length}
use Rattle.laws.proofs.Updates.{mapped_at, mapped_end}
use Rattle.hash.specs.Running.{bytes_from}
use Rattle.hash.proofs.Steps.{state_filled}
use Rattle.hash.proofs.copy_state.Goals as goal

pub loop-i-preserved : goal.loop-i-preserved
loop-i-preserved c =
    let i = c.loop-i.i in
    let next : 8 * i + 8 ≡ 8 * (i + 1) = omega arith in
    let h : 8 * i + 8 ≤ length c.args.out.now = omega (arith, c.loop-i-test.true) in
    mapped_at next (rw c.store.ensures (state_filled _ _ i _ _ h c.requires.2 c.loop-i.invariant))

pub returns : goal.returns
unfolding bytes_from
returns c = mapped_end _ _ _ _ _ (omega (arith, c.loop-i-test.false, c.loop-i.auto.i-end, c.requires.1)) (omega arith) c.loop-i.invariant
