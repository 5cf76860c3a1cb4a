-- Commutative rings as one record; over any of them powers, finite sums and the value of a polynomial.
use Rattle.std.specs.Prelude.{◌≡◌, ℕ, zero, suc}

pub record CRing : Type 1 where
  pub A : Type 0
  pub add : A → A → A
  pub mul : A → A → A
  pub neg : A → A
  pub 𝟘 : A
  pub 𝟙 : A
  pub add_assoc : (a b c : A) → add (add a b) c ≡ add a (add b c)
  pub add_comm : (a b : A) → add a b ≡ add b a
  pub add-zero : (a : A) → add a 𝟘 ≡ a
  pub add_neg : (a : A) → add a (neg a) ≡ 𝟘
  pub mul_assoc : (a b c : A) → mul (mul a b) c ≡ mul a (mul b c)
  pub mul_comm : (a b : A) → mul a b ≡ mul b a
  pub mul-one : (a : A) → mul a 𝟙 ≡ a
  pub mul-add : (a b c : A) → mul a (add b c) ≡ add (mul a b) (mul a c)

module _ (R : CRing) where
  open R use {A, add as ◌⊕◌, mul as ◌⊗◌, 𝟘, 𝟙}

  infixl 60 ◌⊕◌
  infixl 70 ◌⊗◌
  -- x to the power n; to the power 0 it is 1
  unfoldable pub pow : A → ℕ → A
  pow x zero = 𝟙
  pow x (suc n) = pow x n ⊗ x

  -- f 0 + f 1 + .. + f (n - 1)
  unfoldable pub sum : ℕ → (ℕ → A) → A
  sum zero f = 𝟘
  sum (suc n) f = sum n f ⊕ f n

  -- the value at x of the polynomial with the n coefficients c 0, c 1, ..
  unfoldable pub poly : ℕ → (ℕ → A) → A → A
  poly n c x = sum n (λ j. c j ⊗ pow x j)
