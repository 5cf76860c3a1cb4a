-- The table holds the number of the element.
use Prim.Native.Nat.{ℕ, ◌%◌}
use mathlib.Core.Path.{◌∙◌, ap}
use Rattle.field.specs.Field.{P}
use Rattle.ring.specs.Transform.{zeta_inv}
use Rattle.ring.proofs.Zetas.{entry_is, zeta_inv_reduced}
use Rattle.ring.proofs.directions.BackwardDirection.zeta.Goals as goal

pub returns : goal.returns
returns c =
    let k = c.args.k in
    c.new.ensures ∙ ap (λ (n : ℕ). n % P) (entry_is zeta_inv k c.requires c.args.self.now.rule) ∙ zeta_inv_reduced k
