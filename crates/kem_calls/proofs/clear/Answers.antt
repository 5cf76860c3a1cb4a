-- `clear` writes zeros where nothing is wrong.
use mathlib.Core.Path.{refl, ap, ◌∙◌}
use mathlib.Core.List.{List, [], ◌∷◌}
use Prim.Native.Nat.{ℕ}
use Rattle.refusals.proofs.Calls.{done}
use Rattle.kem_calls.proofs.Verdicts.{cleared}
use Rattle.kem_calls.proofs.clear.Goals as goal

pub returns : goal.returns
returns c =
    let judged = c.in_ok-judge_bytes.ensures in
    done _ _ _ _ _ judged.answered refl (ap (λ (l : List ℕ). l ∷ []) (c.fill.ensures.after (λ y e. e) ∙ cleared _ _ judged.as_asked.0))
