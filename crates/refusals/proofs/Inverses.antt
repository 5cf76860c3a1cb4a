-- The inverse in the terms of docs/SCHEME.md: what the field answers is what is told, and it times the number is 1.
use mathlib.Core.Path.{◌≡◌, refl, sym, ap, ◌∙◌}
use mathlib.Core.List.{[], ◌∷◌}
use Rattle.std.specs.Prelude.{Option, Some, None}
use Prim.Native.Nat.{ℕ, ◌*◌, ◌-◌, ◌%◌, ◌^◌, ◌<◌}
use native.Mathlib.Nat.{mod-eq_of_lt, mod-lt}
use lib.Dec.{lit<}
use Rattle.field.specs.Field.{P}
use Rattle.field.specs.Element.{inverted}
use Rattle.field.proofs.Fermat.{inverse_is}
use Rattle.field.proofs.Inverses.{inverted_zero, inverted_other}
use Rattle.refusals.specs.Arguments.{value}
use Rattle.refusals.specs.Judgement.{gives, refuses, sign, fine, judged}
use Rattle.refusals.specs.Answers.{Call}
use Rattle.refusals.specs.Inverses.{told_inverted, inverse_told}
use Rattle.refusals.proofs.Calls.{as_asked, done}

told_as : (a : ℕ) (r : Option ℕ) → inverted a ≡ r → inverse_told a ≡ told_inverted r
unfolding inverse_told
told_as a r e = ap told_inverted e

a_number : (x y : ℕ) → x ≡ y → gives (x ∷ []) ≡ gives (y ∷ [])
a_number x y e = ap (λ (n : ℕ). gives (n ∷ [])) e

-- refusal 4 for 0 alone,
pub told-zero : inverse_told 0 ≡ refuses (sign 4 1 0)
told-zero = told_as 0 None inverted_zero

pub told_power : (a : ℕ) → 0 < a → inverse_told a ≡ gives (a ^ (P - 2) % P ∷ [])
told_power a l = told_as a _ (inverted_other a l)

-- and what is given for any other number times it is 1
pub told-other : (a : ℕ) → 0 < a → a < P → (b : ℕ) × (inverse_told a ≡ gives (b ∷ [])) × (b < P) × (b * a % P ≡ 1)
told-other a l h = (a ^ (P - 2) % P, told_power a l, mod-lt (a ^ (P - 2)) (lit< tt), inverse_is a l h)

-- what the field answers for the element x of a canonical number
answered : (a x : ℕ) (r : Option ℕ) → a < P → x ≡ a % P → r ≡ inverted x → inverted a ≡ r
answered a x r l e f = ap inverted (sym (e ∙ mod-eq_of_lt l)) ∙ sym f

-- ---- so the two good ends of a call that asks for an inverse
module _ (a x : ℕ) (r : Option ℕ) (nothing_told : fine ≡ judged (value a ∷ [])) (x-is : x ≡ a % P) (r-is : r ≡ inverted x) where
  field_says : inverted a ≡ r
  field_says = answered a x r (as_asked (value a ∷ []) nothing_told).0 x-is r-is

  pub zero-refused : r ≡ None → Call (value a ∷ []) (inverse_told a) (refuses (sign 4 1 0)) [] []
  zero-refused e = done _ _ _ _ _ nothing_told (sym (told_as a None (field_says ∙ e))) refl

  pub inverse_done : (e n : ℕ) → r ≡ Some e → n ≡ e → Call (value a ∷ []) (inverse_told a) (gives (n ∷ [])) [] []
  inverse_done e n f g = done _ _ _ _ _ nothing_told (a_number n e g ∙ sym (told_as a (Some e) (field_says ∙ f))) refl
