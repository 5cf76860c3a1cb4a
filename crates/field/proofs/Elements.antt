-- Elements and the numbers they stand for: what each operation on Montgomery words does to the number, and that a number determines its
-- word.
use Rattle.std.proofs.Common.{◌≡◌, ℕ, ◌+◌, ◌-◌, ◌*◌, ◌%◌, ◌^◌, ◌<◌, [], ◌∷◌, sym}
use Rattle.std.proofs.Common.{refl, ap, ◌∙◌, mod-lt, mod-eq_of_lt}
use Rattle.std.proofs.Common.{zero-add, lit<}
use Rattle.laws.proofs.ModularSolver.{mod_ring, at, lit, rem, neg, ◌⊞◌, ◌⊠◌}
use Rattle.laws.proofs.Powers.{mul_powers, first_power, twice}
use Rattle.field.specs.declared.BFieldElement.TheInside.{Inside}
use Rattle.field.specs.Field.{P, R2, reduced}
use Rattle.field.specs.Element.{num, Stands, word, element}
use Rattle.field.specs.Words.{element_is}

-- ---- words
pub num_new : (v : ℕ) → reduced (reduced (R2 * v)) ≡ v % P
unfolding reduced
num_new v = mod_ring P (lit< tt) (v ∷ []) (rem (lit R2 ⊠ at 0 ⊠ lit R2) ⊠ lit R2) (at 0) refl

pub num_add : (a b : ℕ) → reduced ((a + b) % P) ≡ (reduced a + reduced b) % P
unfolding reduced
num_add a b = mod_ring P (lit< tt) (a ∷ b ∷ []) (rem (at 0 ⊞ at 1) ⊠ lit R2) (rem (at 0 ⊠ lit R2) ⊞ rem (at 1 ⊠ lit R2)) refl

pub num_sub : (a b : ℕ) → b < P → reduced ((a + (P - b)) % P) ≡ (reduced a + (P - reduced b)) % P
unfolding reduced
num_sub a b h =
    ap (λ (n : ℕ). (a + (P - n)) % P * R2 % P) (sym (mod-eq_of_lt h))
    ∙ mod_ring P (lit< tt) (a ∷ b ∷ []) (rem (at 0 ⊞ neg (at 1)) ⊠ lit R2) (rem (at 0 ⊠ lit R2) ⊞ neg (at 1 ⊠ lit R2)) refl

pub num_neg : (a : ℕ) → a < P → reduced ((0 + (P - a)) % P) ≡ (P - reduced a) % P
unfolding reduced
num_neg a h = num_sub 0 a h ∙ rw zero-add

pub num_mul : (a b : ℕ) → reduced (reduced (a * b)) ≡ (reduced a * reduced b) % P
unfolding reduced
num_mul a b = mod_ring P (lit< tt) (a ∷ b ∷ []) (rem (at 0 ⊠ at 1 ⊠ lit R2) ⊠ lit R2) (rem (at 0 ⊠ lit R2) ⊠ rem (at 1 ⊠ lit R2)) refl

-- a word times a plain number
pub num_scaled : (a x : ℕ) → reduced (a * x) ≡ (reduced a * x) % P
unfolding reduced
num_scaled a x = mod_ring P (lit< tt) (a ∷ x ∷ []) (at 0 ⊠ at 1 ⊠ lit R2) (rem (at 0 ⊠ lit R2) ⊠ at 1) refl

-- ---- elements
pub num_lt : (e : Inside) → num e < P
unfolding reduced
num_lt e = mod-lt (e.0 * R2) (lit< tt)

-- the word of a number is canonical and stands for its remainder
pub word_lt : (v : ℕ) → word v < P
unfolding word
word_lt v = mod-lt (v * 2 ^ 64) (lit< tt)

pub word_number : (v : ℕ) → reduced (word v) ≡ v % P
unfolding word reduced
word_number v = mod_ring P (lit< tt) (v ∷ []) (rem (at 0 ⊠ lit (2 ^ 64)) ⊠ lit R2) (at 0) refl

-- an element is the element of its number: a number determines its word
pub stands_element : (e : Inside) (v : ℕ) → Stands e v → e ≡ element v
stands_element e v s = sym (element_is e s.good) ∙ ap element s.number

pub same-element : (e f : Inside) (v : ℕ) → Stands e v → Stands f v → e ≡ f
same-element e f v s t = stands_element e v s ∙ sym (stands_element f v t)

-- the element of a number stands for its remainder
pub element_stands : (v : ℕ) → Stands (element v) (v % P)
unfolding element
element_stands v = record { good = word_lt v; number = word_number v }

-- what a square after a square needs
pub ruleset squares = (mul_powers, first_power, twice, num_lt)
