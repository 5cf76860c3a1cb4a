-- Nobody needs to believe this file: `forward-transform` (proofs/Forward) and `backward-untransform` (proofs/Backward) say that its steps come to
-- `transform` and `untransform`. They are those of lattice.rs: a stage has m blocks of t + t numbers, a block t butterflies.
use native.Mathlib.Nat.{mod-lt}
use lib.Dec.{lit<}
use Rattle.std.specs.Prelude.{◌≡◌, true, false, List, ℕ, ◌+◌, ◌*◌, ◌-◌, ◌/◌, ◌%◌, ◌≤◌, ◌<◌, ltb, length, get_or}
use Rattle.laws.specs.Lists.{tab}
use Rattle.field.specs.Field.{P}
use Rattle.field.specs.Element.{word}
use Rattle.ring.specs.Transform.{zeta, zeta_inv}

-- entry k of the forward table, as the word that a butterfly multiplies by
unfoldable pub zeta_word : ℕ → ℕ
zeta_word k = word (zeta k)

-- a butterfly's two new numbers, from its zeta z and its old numbers u and w: forward
abbrev pub sum_of : ℕ → ℕ → ℕ → ℕ
sum_of z u w = (u + z * w % P) % P

abbrev pub difference_of : ℕ → ℕ → ℕ → ℕ
difference_of z u w = (u + (P - z * w % P)) % P

-- and backward
abbrev pub sum_back : ℕ → ℕ → ℕ → ℕ
sum_back z u w = (u + w) % P

abbrev pub difference_back : ℕ → ℕ → ℕ → ℕ
difference_back z u w = z * ((u + (P - w)) % P) % P

-- all four are canonical
pub forward_canonical : (z u w : ℕ) → (sum_of z u w < P) × (difference_of z u w < P)
forward_canonical z u w = (mod-lt (u + z * w % P) (lit< tt), mod-lt (u + (P - z * w % P)) (lit< tt))

pub backward_canonical : (z u w : ℕ) → (sum_back z u w < P) × (difference_back z u w < P)
backward_canonical z u w = (mod-lt (u + w) (lit< tt), mod-lt (z * ((u + (P - w)) % P)) (lit< tt))

-- the butterflies at s, s + 1, .. , j - 1 of the block of t + t numbers from s on; nothing else has changed
pub record Butterflied (f g : ℕ → ℕ → ℕ) (s t j : ℕ) (old new : List ℕ) : Type 0 where
  pub same_length : length new ≡ length old
  pub low : (p : ℕ) → s ≤ p → p < j → get_or new p 0 ≡ f (get_or old p 0) (get_or old (p + t) 0)
  pub high : (p : ℕ) → s ≤ p → p < j → get_or new (p + t) 0 ≡ g (get_or old p 0) (get_or old (p + t) 0)
  pub before : (p : ℕ) → p < s → get_or new p 0 ≡ get_or old p 0
  pub between : (p : ℕ) → j ≤ p → p < s + t → get_or new p 0 ≡ get_or old p 0
  pub after : (p : ℕ) → j + t ≤ p → get_or new p 0 ≡ get_or old p 0

-- place x of a stage: in the lower half of its block, or in the upper
abbrev pub stage_at : (ℕ → ℕ → ℕ → ℕ) → (ℕ → ℕ → ℕ → ℕ) → (ℕ → ℕ) → ℕ → ℕ → List ℕ → ℕ → ℕ
stage_at f g table m t l x =
    elim (ltb (x % (t + t)) t) [
      | true ↦ f (table (m + x / (t + t))) (get_or l x 0) (get_or l (x + t) 0)
      | false ↦ g (table (m + x / (t + t))) (get_or l (x - t) 0) (get_or l x 0)
    ]

-- block i of the stage with m blocks takes entry m + i of the table
unfoldable pub forward : ℕ → ℕ → List ℕ → List ℕ
forward m t l = tab 64 (stage_at sum_of difference_of zeta m t l)

unfoldable pub backward : ℕ → ℕ → List ℕ → List ℕ
backward m t l = tab 64 (stage_at sum_back difference_back zeta_inv m t l)

-- all stages backward; the factor 1/64 is still missing
unfoldable pub unscaled : List ℕ → List ℕ
unscaled l = backward 1 32 (backward 2 16 (backward 4 8 (backward 8 4 (backward 16 2 (backward 32 1 l)))))

-- c times each of 64 numbers
unfoldable pub scaled : ℕ → List ℕ → List ℕ
scaled c l = tab 64 (λ k. c * get_or l k 0 % P)
