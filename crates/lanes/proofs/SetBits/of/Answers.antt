-- `of` looks the count up.
use Prim.Native.Nat.{ℕ, ◌≤◌}
use mathlib.Core.Path.{◌≡◌, ◌∙◌, ap, sym, subst}
use mathlib.Core.List.{List}
use borrow.Author.Rules.{rules}
use lib.ListN.{get_or}
use Rattle.laws.proofs.Lists.{get_or-tab}
use Rattle.lanes.specs.Samplers.{ones}
use Rattle.lanes.proofs.Samplers.{ones_small}
use Rattle.lanes.proofs.SetBits.of.Goals as goal

pub returns : goal.returns
returns c =
    let b = c.args.b in
    let t = c.args.self.now in
    let e : c.from-2.result ≡ ones b =
    c.from-2.ensures ∙ ap (λ (n : ℕ). get_or t.table n 0) c.from.ensures ∙ ap (λ (l : List ℕ). get_or l b 0) t.rule
    ∙ get_or-tab 256 ones 0 b (search rules) in
    (e, subst (λ (n : ℕ). n ≤ 8) (sym e) (ones_small b))
