-- An element's number gives its word back, as the type's model asks. One lemma: where it is false, every contract here waits for it.
use Rattle.std.proofs.Common.{◌≡◌, ◌^◌, [], ◌∷◌, refl, ◌∙◌, mod-eq_of_lt, lit<}
use Rattle.laws.proofs.ModularSolver.{mod_ring, at, lit, rem, ◌⊠◌}
use Rattle.field.specs.declared.BFieldElement.TheInside.{Inside}
use Rattle.field.specs.Field.{P, R2, reduced}
use Rattle.field.specs.Element.{Good, num, word, element}

pub element_is : (e : Inside) → Good e → element (num e) ≡ e
unfolding element word reduced
element_is e h = λ i. record {
  0 = (mod_ring P (lit< tt) (e.0 ∷ []) (rem (at 0 ⊠ lit R2) ⊠ lit (2 ^ 64)) (at 0) refl ∙ mod-eq_of_lt h) i;
}
