-- What asking for an inverse tells, where the number is canonical: docs/SCHEME.md, "When a call says no", number 4.
use Rattle.std.specs.Prelude.{[], ◌∷◌, ℕ, Option, Some, None}
use Rattle.field.specs.Element.{inverted}
use Rattle.refusals.specs.Judgement.{Told, gives, refuses, sign}

-- the number and values of each case of the field's answer
abbrev pub told_inverted : Option ℕ → Told
told_inverted (Some e) = gives (e ∷ [])
told_inverted None = refuses (sign 4 1 0)

-- 0 has none (`told-zero` of proofs/Inverses); that of any other number is its power p - 2, and it times the number is 1 (`told_power`, `told-other`)
unfoldable pub inverse_told : ℕ → Told
inverse_told a = told_inverted (inverted a)
