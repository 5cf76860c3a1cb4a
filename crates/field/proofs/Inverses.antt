-- `inverse` gives the inverse: what it answers, times the number, is 1 modulo p; it has no answer for 0 alone.
use Rattle.std.proofs.Common.{◌≡◌, ℕ, ◌-◌, ◌*◌, ◌%◌, ◌^◌, ◌<◌, Bool, ◌⊎◌, Some, None, refl, ap, inl, inr, eq-zero-or-pos, ne_of_gt, ne_eqb}
use Rattle.std.proofs.Common.{mod-lt, lit<}
use Rattle.laws.specs.Choices.{pick}
use Rattle.field.specs.declared.BFieldElement.{BFieldElement}
use Rattle.field.specs.declared.BFieldElement.TheInside.{Inside}
use Rattle.field.specs.Field.{P, R2, reduced}
use Rattle.field.specs.Element.{Good, num, word, element, inverted}
use Rattle.field.proofs.Elements.{stands_element}
use Rattle.field.proofs.Fermat.{inverse_is}

pub inverted_zero : inverted 0 ≡ None
unfolding inverted
inverted_zero = refl

pub inverted_other : (x : ℕ) → 0 < x → inverted x ≡ Some (x ^ (P - 2) % P)
unfolding inverted
inverted_other x l = ap (λ (b : Bool). pick b None (Some (x ^ (P - 2) % P))) (ne_eqb x 0 (λ e. ne_of_gt l e))

-- for every x from 1 to p - 1 there is an answer e, which is below p, and e times x is 1
pub inverse_right : (x : ℕ) → 0 < x → x < P → (e : BFieldElement) × (inverted x ≡ Some e) × ((e * x) % P ≡ 1) × (e < P)
inverse_right x l h = (x ^ (P - 2) % P, inverted_other x l, inverse_is x l h, mod-lt (x ^ (P - 2)) (lit< tt))

-- what the code tests: an element stands for 0 exactly where its word is 0
pub word_zero : (e : Inside) → e.0 ≡ 0 → num e ≡ 0
unfolding reduced
word_zero e z = ap (λ (n : ℕ). (n * R2) % P) z

pub word_other : (e : Inside) → Good e → (e.0 ≡ 0 → ⊥) → 0 < num e
unfolding element word
word_other e g ne = go (eq-zero-or-pos (num e))
  where
    go : (num e ≡ 0) ⊎ (0 < num e) → 0 < num e
    go (inl z) = absurd (ne (ap (λ (f : Inside). f.0) (stands_element e 0 (record { good = g; number = z }))))
    go (inr p) = p

-- what `inverse` needs
pub ruleset inverses = (inverted_zero, inverted_other, word_zero, word_other)
