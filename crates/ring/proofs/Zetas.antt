-- The entries of the zeta tables.
use mathlib.Core.Path.{◌≡◌, refl, ap, ◌∙◌}
use mathlib.Core.List.{List}
use Prim.Native.Nat.{ℕ, ◌*◌, ◌-◌, ◌%◌, ◌^◌, ◌<◌}
use native.Mathlib.Nat.{mod-mod}
use lib.ListN.{get_or}
use Rattle.laws.specs.Lists.{tab}
use Rattle.laws.proofs.Lists.{get_or-tab}
use Rattle.field.specs.Field.{P, reduced}
use Rattle.field.proofs.Elements.{word_lt, word_number}
use Rattle.ring.specs.Transform.{psi, brv, zeta, zeta_inv}
use Rattle.ring.specs.Stages.{zeta_word}

pub zeta-reduced : (k : ℕ) → zeta k % P ≡ zeta k
unfolding zeta
zeta-reduced k = mod-mod (psi ^ brv k) P

pub zeta_inv_reduced : (k : ℕ) → zeta_inv k % P ≡ zeta_inv k
unfolding zeta_inv
zeta_inv_reduced k = mod-mod (psi ^ (128 - brv k)) P

-- what a table holds that is told by its rule
pub entry_is : (f : ℕ → ℕ) {l : List ℕ} (k : ℕ) → k < 64 → l ≡ tab 64 f → get_or l k 0 ≡ f k
entry_is f k h e = ap (λ (l : List ℕ). get_or l k 0) e ∙ get_or-tab 64 f 0 k h

-- a word of the table is canonical and stands for its zeta
pub zeta_word_lt : (k : ℕ) → zeta_word k < P
unfolding zeta_word
zeta_word_lt k = word_lt (zeta k)

pub words_below : {l : List ℕ} → l ≡ tab 64 zeta_word → (k : ℕ) → k < 64 → get_or l k 0 < P
words_below e k h = rw (entry_is zeta_word k h e) (zeta_word_lt k)

pub zeta_word_number : (k : ℕ) → reduced (zeta_word k) ≡ zeta k % P
unfolding zeta_word
zeta_word_number k = word_number (zeta k)

-- the facts of docs/SCHEME.md, "Transform"
pub psi_squared : psi * psi % P ≡ 8
psi_squared = refl

pub zeta_1 : zeta 1 ≡ 2 ^ 48
unfolding zeta brv
zeta_1 = refl
