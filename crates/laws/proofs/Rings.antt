-- What follows in every commutative ring, and the rules by which `simp ring` brings both sides of an equation to one form.
use mathlib.Core.Path.{◌≡◌, sym, ◌∙◌, ap}
use Rattle.laws.specs.Rings.{CRing}

module _ (R : CRing) where
  open R use {A, add as ◌⊕◌, mul as ◌⊗◌, neg as ⊖◌, 𝟘, 𝟙, add_assoc, add_comm, add-zero, add_neg, mul_assoc, mul_comm, mul-one, mul-add}

  infixl 60 ◌⊕◌
  infixl 70 ◌⊗◌
  infix 80 ⊖◌
  pub zero-add : (a : A) → 𝟘 ⊕ a ≡ a
  zero-add a = add_comm 𝟘 a ∙ add-zero a

  pub neg_add_cancel : (a : A) → (⊖ a) ⊕ a ≡ 𝟘
  neg_add_cancel a = add_comm (⊖ a) a ∙ add_neg a

  pub add_left_comm : (a b c : A) → a ⊕ (b ⊕ c) ≡ b ⊕ (a ⊕ c)
  add_left_comm a b c = sym (add_assoc a b c) ∙ ap (λ x. x ⊕ c) (add_comm a b) ∙ add_assoc b a c

  pub mul_left_comm : (a b c : A) → a ⊗ (b ⊗ c) ≡ b ⊗ (a ⊗ c)
  mul_left_comm a b c = sym (mul_assoc a b c) ∙ ap (λ x. x ⊗ c) (mul_comm a b) ∙ mul_assoc b a c

  pub add_neg_cancel_left : (a b : A) → a ⊕ ((⊖ a) ⊕ b) ≡ b
  add_neg_cancel_left a b = sym (add_assoc a (⊖ a) b) ∙ ap (λ x. x ⊕ b) (add_neg a) ∙ zero-add b

  pub neg_add_cancel_left : (a b : A) → (⊖ a) ⊕ (a ⊕ b) ≡ b
  neg_add_cancel_left a b = sym (add_assoc (⊖ a) a b) ∙ ap (λ x. x ⊕ b) (neg_add_cancel a) ∙ zero-add b

  pub add_cancel_left : (a b c : A) → a ⊕ b ≡ a ⊕ c → b ≡ c
  add_cancel_left a b c e = sym (neg_add_cancel_left a b) ∙ ap (λ x. (⊖ a) ⊕ x) e ∙ neg_add_cancel_left a c

  pub neg_unique : (a b : A) → a ⊕ b ≡ 𝟘 → ⊖ a ≡ b
  neg_unique a b e = add_cancel_left a (⊖ a) b (add_neg a ∙ sym e)

  pub neg-neg : (a : A) → ⊖ (⊖ a) ≡ a
  neg-neg a = neg_unique (⊖ a) a (neg_add_cancel a)

  pub neg-zero : ⊖ 𝟘 ≡ 𝟘
  neg-zero = neg_unique 𝟘 𝟘 (add-zero 𝟘)

  pub neg-add : (a b : A) → ⊖ (a ⊕ b) ≡ (⊖ a) ⊕ (⊖ b)
  neg-add a b =
      neg_unique (a ⊕ b) ((⊖ a) ⊕ (⊖ b))
      (add_assoc a b ((⊖ a) ⊕ (⊖ b)) ∙ ap (λ x. a ⊕ x) (add_left_comm b (⊖ a) (⊖ b) ∙ ap (λ x. (⊖ a) ⊕ x) (add_neg b)) ∙ add_neg_cancel_left a 𝟘)

  pub mul-zero : (a : A) → a ⊗ 𝟘 ≡ 𝟘
  mul-zero a = add_cancel_left (a ⊗ 𝟘) (a ⊗ 𝟘) 𝟘 (sym (mul-add a 𝟘 𝟘) ∙ ap (λ x. a ⊗ x) (add-zero 𝟘) ∙ sym (add-zero (a ⊗ 𝟘)))

  pub zero-mul : (a : A) → 𝟘 ⊗ a ≡ 𝟘
  zero-mul a = mul_comm 𝟘 a ∙ mul-zero a

  pub one-mul : (a : A) → 𝟙 ⊗ a ≡ a
  one-mul a = mul_comm 𝟙 a ∙ mul-one a

  pub add-mul : (a b c : A) → (a ⊕ b) ⊗ c ≡ a ⊗ c ⊕ b ⊗ c
  add-mul a b c = mul_comm (a ⊕ b) c ∙ mul-add c a b ∙ (λ i. mul_comm c a i ⊕ mul_comm c b i)

  pub mul-neg : (a b : A) → a ⊗ (⊖ b) ≡ ⊖ (a ⊗ b)
  mul-neg a b = sym (neg_unique (a ⊗ b) (a ⊗ (⊖ b)) (sym (mul-add a b (⊖ b)) ∙ ap (λ x. a ⊗ x) (add_neg b) ∙ mul-zero a))

  pub neg-mul : (a b : A) → (⊖ a) ⊗ b ≡ ⊖ (a ⊗ b)
  neg-mul a b = mul_comm (⊖ a) b ∙ mul-neg b a ∙ ap (λ x. ⊖ x) (mul_comm b a)

  -- the record's own laws, as rules
  pub r_add_assoc : (a b c : A) → a ⊕ b ⊕ c ≡ a ⊕ (b ⊕ c)
  r_add_assoc = add_assoc

  pub r_add_comm : (a b : A) → a ⊕ b ≡ b ⊕ a
  r_add_comm = add_comm

  pub r_add_zero : (a : A) → a ⊕ 𝟘 ≡ a
  r_add_zero = add-zero

  pub r_add_neg : (a : A) → a ⊕ (⊖ a) ≡ 𝟘
  r_add_neg = add_neg

  pub r_mul_assoc : (a b c : A) → a ⊗ b ⊗ c ≡ a ⊗ (b ⊗ c)
  r_mul_assoc = mul_assoc

  pub r_mul_comm : (a b : A) → a ⊗ b ≡ b ⊗ a
  r_mul_comm = mul_comm

  pub r_mul_one : (a : A) → a ⊗ 𝟙 ≡ a
  r_mul_one = mul-one

  pub r_mul_add : (a b c : A) → a ⊗ (b ⊕ c) ≡ a ⊗ b ⊕ a ⊗ c
  r_mul_add = mul-add

-- `simp ring`: expand, sort, cancel
pub ruleset ring = (
  r_add_assoc,
  r_add_comm,
  r_add_zero,
  r_add_neg,
  r_mul_assoc,
  r_mul_comm,
  r_mul_one,
  r_mul_add,
  zero-add,
  neg_add_cancel,
  add_left_comm,
  mul_left_comm,
  add_neg_cancel_left,
  neg_add_cancel_left,
  neg-neg,
  neg-zero,
  neg-add,
  mul-zero,
  zero-mul,
  one-mul,
  add-mul,
  mul-neg,
  neg-mul,
)
