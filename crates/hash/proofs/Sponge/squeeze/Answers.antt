-- `squeeze` has drawn the first i bytes, and the state is what is then left.
use native.Mathlib.Omega.{arith}
use native.Mathlib.Nat.{add-sub_cancel_left}
use Prim.Native.Nat.{ℕ, ◌+◌, ◌<◌, ◌≤◌}
use mathlib.Core.Path.{◌≡◌, refl, sym, ◌∙◌, ap, ap₂, subst}
use lib.ListN.{length-take, length-drop}
use Rattle.hash.specs.Running.{Running, run, ready, drawn, rest}
use Rattle.hash.specs.declared.Sponge.TheInside.{Inside}
use Rattle.hash.proofs.Cuts.{turn_yes, turn_no, rest-step, draw_step}
use Rattle.hash.proofs.Sponge.squeeze.Goals as goal
use Rattle.hash.proofs.Sponge.squeeze.Goals.{Joined-at-rate, else-at-rate, then-at-rate}

-- the block that is ready
readied : (c : Joined-at-rate)
    → (ready c.args.rate.bytes (run c.loop-i.self-inside.lanes c.loop-i.at) ≡ run c.if-at-rate.self-inside.lanes c.if-at-rate.at)
    × (c.if-at-rate.at < c.args.rate.bytes)
unfolding ready
readied c =
    let rate = c.args.rate.bytes in
    elim c.if-at-rate.branch [
      | then-at-rate w ↦ (
        turn_yes _ _ _ w.if-at-rate.true
            ∙ sym (ap₂ run (ap (λ (s : Inside). s.lanes) w.self-inside-is ∙ w.permute.ensures) w.at-is),
        subst (λ (k : ℕ). k < rate) (sym w.at-is) c.args.rate.fits.0,
      )
      | else-at-rate w ↦ (
        turn_no _ _ _ w.if-at-rate.false ∙ sym (ap₂ run (ap (λ (s : Inside). s.lanes) w.self-inside-is) w.at-is),
        subst (λ (k : ℕ). k < rate) (sym w.at-is) (let h : c.loop-i.at < rate = omega arith in h),
      )
    ]

pub loop-i-init : goal.loop-i-init
unfolding drawn rest
loop-i-init c = record {
  within = subst (λ (s : Running). s.at ≤ c.args.rate.bytes) (sym c.self.view_is) c.requires;
  begun = omega arith;
  left = refl;
  bytes = refl;
}

pub loop-i-preserved : goal.loop-i-preserved
loop-i-preserved c =
    let l = c.loop-i in
    let rate = c.args.rate.bytes in
    let n = c.min-n.result in
    let pos = c.args.rate.fits.0 in
    let joined = readied (goal.at.loop-i-preserved c).Joined-at-rate in
    let e = ap (ready rate) (sym l.invariant.left) ∙ joined.0 in
    let some : 0 < n = omega (arith, c.min-n.ensures, joined.1) in
    let fits : c.if-at-rate.at + n ≤ rate = omega (arith, c.min-n.ensures, joined.1) in
    record {
      within = fits;
      begun = omega arith;
      left = rest-step _ _ _ _ _ _ pos some e fits;
      bytes = draw_step _ _ _ _ _ _ pos some e fits _ _ _ _ _ l.invariant.bytes c.copy_out.ensures (simp (length-take, length-drop) (omega arith))
          (add-sub_cancel_left l.i n);
    }
