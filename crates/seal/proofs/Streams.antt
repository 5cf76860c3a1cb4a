-- G's bytes, drawn in two parts: after the first they are begun, and the second continues them.
use mathlib.Core.Path.{◌≡◌, ap, ◌∙◌, sym}
use mathlib.Core.List.{List, ◌++◌, append-nil}
use Prim.Native.Nat.{ℕ}
use native.Mathlib.Omega.{arith}
use lib.Dec.{lit<}
use lib.ListN.{length, take, drop, length-drop, drop_of_length-le}
use lib.Seq.{take_at}
use Rattle.laws.proofs.Parts.{put, put_size}
use Rattle.hash.specs.Running.{Running, run, drawn, rest, Shakes}
use Rattle.hash.proofs.Cuts.{length-drawn, drawn-add, rest-whole}
use Rattle.packets.specs.Parameters.{matrix_bytes}
use Rattle.seal.specs.Sealing.{cut, others, continued, Begun}

-- p bytes of the list were lent and came back as x, drawn from s, of which s' is left
pub begins : {seed x : List ℕ} {s s' : Running} (old : List ℕ) (p : ℕ) → p ≡ cut → length old ≡ matrix_bytes → Shakes s seed → s.at ≡ 136
    → x ≡ drawn 136 p s → s' ≡ rest 136 p s → Begun seed s' (put 0 cut x old)
begins {seed} {x} {s} {s'} old p u h m used e f =
    let size : length x ≡ cut = ap length e ∙ length-drawn 136 p s ∙ u in
    let front = take_at x (drop cut old) cut size ∙ e ∙ ap (λ (n : ℕ). drawn 136 n s) u in
    let left = f ∙ ap (λ (n : ℕ). rest 136 n s) u in
    let whole : (rest 136 cut s).at ≡ 136 = ap (λ (n : ℕ). (rest 136 cut (run s.lanes n)).at) used ∙ rest-whole 136 31 s.lanes (lit< tt) in
    record {
      size = put_size 0 cut x old size (omega arith) ∙ h;
      place = ap (λ (t : Running). t.at) left ∙ whole;
      whole = (λ t. front t ++ drawn 136 others (left t)) ∙ sym (drawn-add 136 cut others s) ∙ m.bytes matrix_bytes;
    }

-- p bytes from the cut on were lent and came back as y, drawn from s
pub continues : {y : List ℕ} (s : Running) (old : List ℕ) (p : ℕ) → p ≡ others → length old ≡ matrix_bytes → y ≡ drawn 136 p s
    → put cut others y old ≡ continued s old
continues {y} s old p u h e =
    let none = drop_of_length-le (drop cut old) {i = others} (omega (arith, length-drop cut old)) in
    let back = ap (λ (z : List ℕ). y ++ z) none ∙ append-nil y ∙ e ∙ ap (λ (n : ℕ). drawn 136 n s) u in
    ap (λ (z : List ℕ). take cut old ++ z) back
