-- What a field element stands for. Its Montgomery word is seen by this file alone: everything else speaks of numbers below p.
-- docs/SCHEME.md, "Field".
use Rattle.std.specs.Prelude.{◌≡◌, ℕ, ◌-◌, ◌*◌, ◌%◌, ◌^◌, ◌<◌, ◌==◌, Option, Some, None}
use Rattle.laws.specs.Choices.{pick}
use Rattle.field.specs.declared.BFieldElement.TheInside.{Inside}
use Rattle.field.specs.Field.{P, reduced}

-- the word is canonical: what is so of every element
abbrev pub Good : Inside → Type 0
Good e = e.0 < P

-- the number that an element stands for, which is what contracts see of it
abbrev pub num : Inside → ℕ
num e = reduced e.0

-- e is the inside of an element of the number v
pub record Stands (e : Inside) (v : ℕ) : Type 0 where
  pub good : Good e
  pub number : num e ≡ v

-- the word of any number, and its element
unfoldable pub word : ℕ → ℕ
word v = (v * 2 ^ 64) % P

unfoldable pub element : ℕ → Inside
element v = record { 0 = word v }

-- ---- the inverse
-- 0 has none; that of any other number x is x ^ (p - 2) (`inverse_right` of proofs/Inverses: it times x is 1)
unfoldable pub inverted : ℕ → Option ℕ
inverted x = pick (x == 0) None (Some (x ^ (P - 2) % P))
