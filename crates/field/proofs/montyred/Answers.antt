-- `montyred` divides by 2^64 modulo p: its steps are those of `Reduction`.
use Rattle.std.proofs.Common.{refl, ◌∙◌}
use Rattle.field.proofs.Reduction.{reduced_is}
use Rattle.field.proofs.montyred.Goals as goal

pub returns : goal.returns
returns c =
    (c.sub_mod_p.ensures.0 ∙ reduced_is c.args.x _ c.from-e.result _ refl c.from-e.ensures refl, c.sub_mod_p.ensures.1)
