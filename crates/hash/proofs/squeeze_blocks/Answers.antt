-- `squeeze_blocks` has drawn i blocks of both states.
use native.Mathlib.Omega.{arith}
use native.Mathlib.Nat.{add-sub_cancel_left, zero-mul}
use Prim.Native.Nat.{◌+◌, ◌*◌}
use mathlib.Core.Path.{◌≡◌, sym}
use lib.ListN.{length-take, length-drop}
use Rattle.hash.proofs.Steps.{whole_none, whole_at, whole_more, block_fits}
use Rattle.hash.proofs.squeeze_blocks.Goals as goal

pub loop-i-init : goal.loop-i-init
loop-i-init c =
    let none = sym (zero-mul c.args.rate.bytes) in
    record { left = whole_at none (whole_none _ _ _); right = whole_at none (whole_none _ _ _) }

pub loop-i-preserved : goal.loop-i-preserved
loop-i-preserved c =
    let r = c.args.rate.bytes in
    let i = c.loop-i.i in
    let pos = c.args.rate.fits.0 in
    let cut = add-sub_cancel_left (i * r) r in
    let next : i * r + r ≡ (i + 1) * r = omega arith in
    let fits = block_fits c.min.result r i c.loop-i-test.true in
    record {
      left = whole_at next
          (whole_more _ _ _ _ _ _ _ pos c.loop-i.invariant.left c.permute_two.ensures.left _ _ _ (omega (arith, fits, c.min.ensures))
          c.copy_state.ensures (simp (length-take, length-drop) (omega arith)) cut);
      right = whole_at next
          (whole_more _ _ _ _ _ _ _ pos c.loop-i.invariant.right c.permute_two.ensures.right _ _ _ (omega (arith, fits, c.min.ensures))
          c.copy_state-in-loop-i.ensures (simp (length-take, length-drop) (omega arith)) cut);
    }
