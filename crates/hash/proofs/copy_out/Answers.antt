-- `copy_out` copies whole lanes and then bytes, as two parts of the slice.
use borrow.Author.Rules.{rules}
use native.Mathlib.Omega.{arith}
use native.Mathlib.Nat.{add-sub_cancel_left}
use Prim.Native.Nat.{◌+◌, ◌*◌, ◌/◌, ◌%◌, ◌<◌, ◌≤◌}
use mathlib.Core.Path.{◌≡◌, refl, ◌∙◌}
use lib.ListN.{length, length-take, length-drop}
use Rattle.hash.proofs.Copies.{packed, two_parts}
use Rattle.hash.proofs.copy_out.Goals as goal
use Rattle.hash.proofs.copy_out.Goals.{Joined-at-eq0, then-at-eq0, else-at-eq0}

-- whole lanes are copied only from a lane's start, and as many as there is room for
chosen : (c : Joined-at-eq0)
    → let words = c.if-at-eq0.words in (0 < words → c.args.at % 8 ≡ 0) × (8 * words ≤ length c.args.out.now)
chosen c =
    elim c.if-at-eq0.branch [
      | then-at-eq0 w ↦ (λ some. w.if-at-eq0.true, omega arith)
      | else-at-eq0 w ↦ (λ some. absurd (omega (arith, some, w.words-is)), omega arith)
    ]

pub returns : goal.returns
returns c =
    let lanes = c.args.lanes.now in
    let at = c.args.at in
    let words = c.if-at-eq0.words in
    let fits = chosen (goal.at.returns c).Joined-at-eq0 in
    let within : at / 8 + words ≤ length lanes = omega (arith, c.requires, c.told-lanes, fits.1) in
    let whole = packed lanes at words _ fits.0 within (add-sub_cancel_left (at / 8) words) in
    two_parts _ _ _ _ _ _ _ _ _ _ refl (c.pack.ensures ∙ whole) refl c.copy_bytes.ensures (simp (length-take, length-drop) (omega arith))
    (search rules) fits.1
