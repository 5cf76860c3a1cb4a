-- DEMAND 2: `demand_2`. Each part is a law about a definition, taken to the call by its contract.
use mathlib.Core.Path.{sym, ap, ◌∙◌, subst}
use Rattle.field.specs.Field.{Coefficients}
use Rattle.ring.specs.Transform.{transform, untransform}
use Rattle.ring.specs.Elements.{Remainder}
use Rattle.ring.proofs.Transforms.{transform-at, transform-canonical, untransform-canonical, untransform-transform, transform-untransform}
use Rattle.ring.proofs.Remainders.{product_remainder, remainder_only}
use Rattle.demands.specs.Demand2.{Demand2}
use Rattle.demands.proofs.Ends.{filled}

pub demand_2 : Demand2
demand_2 = record {
  shake256_is_fips202 = λ o h g. filled _ _ _ _ _ (h, (g, record {})) o.allowed;
  sha3_256_is_fips202 = λ o h g. filled _ _ _ _ _ (h, (g, record {})) o.allowed;
  there_and_back = λ t u c e.
      let forth = filled _ _ _ _ _ (c, record {}) t.allowed in
      let is = e ∙ forth.1 in
      let back = filled _ _ _ _ _ (subst (Coefficients 64) (sym is) (transform-canonical _), record {}) u.allowed in
      (forth.0, back.0, back.1 ∙ ap untransform is ∙ untransform-transform _ c);
  back_and_there = λ u t c e.
      let forth = filled _ _ _ _ _ (c, record {}) u.allowed in
      let is = e ∙ forth.1 in
      let back = filled _ _ _ _ _ (subst (Coefficients 64) (sym is) (untransform-canonical _), record {}) t.allowed in
      (forth.0, back.0, back.1 ∙ ap transform is ∙ transform-untransform _ c);
  values = λ t c k h.
      let forth = filled _ t.answer _ _ _ (c, record {}) t.allowed in
      (forth.0, rw forth.1 (transform-at t.lent.0.now k h));
  product_is_remainder = λ o a b h.
      let done = filled _ _ _ _ _ (a, (b, (h, record {}))) o.allowed in
      (done.0, subst (Remainder _ _) (sym done.1) (product_remainder _ _ a b));
  only_remainder = λ a b r s ca cb x y. remainder_only a b ca cb r x ∙ sym (remainder_only a b ca cb s y);
}
