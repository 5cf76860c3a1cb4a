-- `add` adds the part into the block, and turns it where it is full.
use Prim.Native.Nat.{◌+◌, ◌<◌, ◌≤◌}
use mathlib.Core.Path.{◌≡◌, sym, ◌∙◌, ap, subst}
use mathlib.Core.List.{List}
use Prim.Native.Nat.{ℕ}
use lib.ListN.{length}
use Rattle.hash.specs.Running.{Running, run, turn, feed}
use Rattle.hash.proofs.Cuts.{fed_in, turn_yes, turn_no}
use Rattle.hash.proofs.Sponge.add.Goals as goal
use Rattle.hash.proofs.Sponge.add.Goals.{After-add_part}

added : (c : After-add_part)
    → let s = c.self.inside in
    turn c.args.rate.bytes c.add_part.new.lanes (s.at + length c.args.part.now) ≡ feed c.args.rate.bytes c.args.self.now c.args.part.now
added c =
    let s = c.self.inside in
    let rate = c.args.rate.bytes in
    let part = c.args.part.now in
    let fits = subst (λ (x : Running). (x.at < rate) × (x.at + length part ≤ rate)) (sym c.self.view_is) c.requires in
    fed_in rate part s.lanes _ s.at fits.0 fits.1 c.add_part.ensures ∙ ap (λ (x : Running). feed rate x part) c.self.view_is

pub returns-then-self-rate-clause-fed : goal.returns-then-self-rate-clause-fed
returns-then-self-rate-clause-fed c =
    ap (λ (l : List ℕ). run l 0) c.permute.ensures ∙ sym (turn_yes _ _ _ c.if-self-rate.true)
    ∙ added (goal.at.returns-then-self-rate-clause-fed c).After-add_part

pub returns-else-self-rate-clause-fed : goal.returns-else-self-rate-clause-fed
returns-else-self-rate-clause-fed c =
    sym (turn_no _ _ _ c.if-self-rate.false) ∙ added (goal.at.returns-else-self-rate-clause-fed c).After-add_part
