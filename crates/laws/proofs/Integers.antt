-- Integers: how large sums and products are, and what they leave modulo any m above 0. An integer is the difference of two naturals, `over` less
-- `under`, one of which is 0.
use mathlib.Core.Path.{◌≡◌, refl, sym, ap, ◌∙◌, subst}
use mathlib.Core.Logic.{⊎_elim}
use Prim.Native.Nat.{ℕ, zero, suc, ◌+◌, ◌*◌, ◌-◌, ◌%◌, ◌≤◌, ◌<◌}
use native.Mathlib.Nat.{mul-le-mul, add-zero, zero-add, le_trans, mod-lt}
use native.Mathlib.Omega.{arith}
use lib.IntN.{ℤ, pos, negsuc, sub_ℕ, ◌+ℤ◌, ◌*ℤ◌, neg_ℤ, nat_abs}
use borrow.Author.Tests.{lt-ltb, le-ltb}
use Rattle.laws.specs.Congruence.{Cong}
use Rattle.laws.specs.Integers.{residue}
use Rattle.laws.proofs.Orders.{le_or_lt}
use Rattle.laws.proofs.Congruence.{c_refl, c_eq, c_trans, c_sym, c_add, c_mul, c_mod, c_neg, c_cancel}

abbrev pub over : ℤ → ℕ
over (pos n) = n
over (negsuc n) = 0

abbrev pub under : ℤ → ℕ
under (pos n) = 0
under (negsuc n) = suc n

-- ---- sums and products as differences
sub_at_least : (a b : ℕ) → b ≤ a → sub_ℕ a b ≡ pos (a - b)
sub_at_least a b h = simp (le-ltb a b h)

sub_less : (a b : ℕ) → a < b → sub_ℕ a b ≡ negsuc (b - suc a)
sub_less a b h = simp (lt-ltb a b h)

-- a property of a difference of two naturals, by cases
sub_cases : (Q : ℤ → Type 0) (a b : ℕ) → (b ≤ a → Q (pos (a - b))) → (a < b → Q (negsuc (b - suc a))) → Q (sub_ℕ a b)
sub_cases Q a b f g =
    ⊎_elim (λ h. subst Q (sym (sub_at_least a b h)) (f h)) (λ h. subst Q (sym (sub_less a b h)) (g h)) (le_or_lt b a)

sub_parts : (a b : ℕ) → over (sub_ℕ a b) + b ≡ under (sub_ℕ a b) + a
sub_parts a b = sub_cases (λ z. over z + b ≡ under z + a) a b (λ h. omega arith) (λ h. omega arith)

add_parts : (x y : ℤ) → over (x +ℤ y) + (under x + under y) ≡ under (x +ℤ y) + (over x + over y)
add_parts (pos a) (pos b) = omega arith
add_parts (pos a) (negsuc b) = omega (arith, sub_parts a (suc b))
add_parts (negsuc a) (pos b) = omega (arith, sub_parts b (suc a))
add_parts (negsuc a) (negsuc b) = omega arith

neg-over : (x : ℤ) → over (neg_ℤ x) ≡ under x
neg-over (pos zero) = refl
neg-over (pos (suc n)) = refl
neg-over (negsuc n) = refl

neg_under : (x : ℤ) → under (neg_ℤ x) ≡ over x
neg_under (pos zero) = refl
neg_under (pos (suc n)) = refl
neg_under (negsuc n) = refl

mul_parts : (x y : ℤ) → over (x *ℤ y) + (over x * under y + under x * over y) ≡ under (x *ℤ y) + (over x * over y + under x * under y)
mul_parts (pos a) (pos b) = omega arith
mul_parts (pos a) (negsuc b) = omega (arith, neg-over (pos (a * suc b)), neg_under (pos (a * suc b)))
mul_parts (negsuc a) (pos b) = omega (arith, neg-over (pos (suc a * b)), neg_under (pos (suc a * b)))
mul_parts (negsuc a) (negsuc b) = omega arith

-- ---- sizes: z is from -b to b. A record, so that both can be inferred
pub record Sized (z : ℤ) (b : ℕ) : Type 0 where
  pub size : nat_abs z ≤ b

pub over_at_most : (z : ℤ) {b : ℕ} → Sized z b → over z ≤ under z + b
over_at_most (pos n) s = omega arith
over_at_most (negsuc n) s = omega arith

pub under_at_most : (z : ℤ) {b : ℕ} → Sized z b → under z ≤ over z + b
under_at_most (pos n) s = omega arith
under_at_most (negsuc n) s = omega arith

abs_add : (x y : ℤ) → nat_abs (x +ℤ y) ≤ nat_abs x + nat_abs y
abs_add (pos a) (pos b) = omega arith
abs_add (pos a) (negsuc b) = sub_cases (λ z. nat_abs z ≤ a + suc b) a (suc b) (λ h. omega arith) (λ h. omega arith)
abs_add (negsuc a) (pos b) = sub_cases (λ z. nat_abs z ≤ suc a + b) b (suc a) (λ h. omega arith) (λ h. omega arith)
abs_add (negsuc a) (negsuc b) = omega arith

abs_neg : (x : ℤ) → nat_abs (neg_ℤ x) ≡ nat_abs x
abs_neg (pos zero) = refl
abs_neg (pos (suc n)) = refl
abs_neg (negsuc n) = refl

abs_mul : (x y : ℤ) → nat_abs (x *ℤ y) ≡ nat_abs x * nat_abs y
abs_mul (pos a) (pos b) = refl
abs_mul (pos a) (negsuc b) = abs_neg (pos (a * suc b))
abs_mul (negsuc a) (pos b) = abs_neg (pos (suc a * b))
abs_mul (negsuc a) (negsuc b) = refl

pub size-add : {x y : ℤ} {a b : ℕ} → Sized x a → Sized y b → Sized (x +ℤ y) (a + b)
size-add {x} {y} p q = record { size = both_at_most _ _ _ _ _ (abs_add x y) p.size q.size }
  where
    both_at_most : (n s t a b : ℕ) → n ≤ s + t → s ≤ a → t ≤ b → n ≤ a + b
    both_at_most n s t a b h i j = omega arith

pub size-neg : {x : ℤ} {a : ℕ} → Sized x a → Sized (neg_ℤ x) a
size-neg {x} {a} p = record { size = subst (λ (n : ℕ). n ≤ a) (sym (abs_neg x)) p.size }

pub size-mul : {x y : ℤ} {a b : ℕ} → Sized x a → Sized y b → Sized (x *ℤ y) (a * b)
size-mul {x} {y} {a} {b} p q = record { size = subst (λ (n : ℕ). n ≤ a * b) (sym (abs_mul x y)) (mul-le-mul p.size q.size) }

-- the difference of two naturals is no larger than both
pub size-sub : (b m n : ℕ) → m ≤ b → n ≤ b → Sized (pos m +ℤ neg_ℤ (pos n)) b
size-sub b m zero h g = record { size = omega arith }
size-sub b m (suc n) h g = record { size = sub_cases (λ z. nat_abs z ≤ b) m (suc n) (λ l. omega arith) (λ l. omega arith) }

pub size_wider : {z : ℤ} {a : ℕ} (b : ℕ) → a ≤ b → Sized z a → Sized z b
size_wider b h p = record { size = le_trans p.size h }

-- ---- remainders: z leaves what a leaves. A record, so that all can be inferred
pub record Leaves (m : ℕ) (z : ℤ) (a : ℕ) : Type 0 where
  pub leaves : Cong m (a + under z) (over z)

pub leaves_pos : {m : ℕ} (n : ℕ) → Leaves m (pos n) n
leaves_pos n = record { leaves = c_eq (add-zero n) }

pub leaves_cong : {m : ℕ} {z : ℤ} {a b : ℕ} → Cong m b a → Leaves m z a → Leaves m z b
leaves_cong e p = record { leaves = c_trans (c_add e c_refl) p.leaves }

module _ {m : ℕ} (positive : 0 < m) where
  pub leaves_residue : (z : ℤ) → Leaves m z (residue m z)
  unfolding residue
  leaves_residue (pos n) = leaves_cong c_mod (leaves_pos n)
  leaves_residue (negsuc n) = record { leaves = c_trans (c_add c_mod c_refl) (c_neg (suc n) positive) }

  -- two numbers that an integer leaves are congruent
  pub leaves_one : {z : ℤ} {a b : ℕ} → Leaves m z a → Leaves m z b → Cong m a b
  leaves_one {z} p q = c_cancel (under z) positive (c_trans p.leaves (c_sym q.leaves))

  pub leaves_add : {x y : ℤ} {a b : ℕ} → Leaves m x a → Leaves m y b → Leaves m (x +ℤ y) (a + b)
  leaves_add {x} {y} {a} {b} p q = record {
    leaves = c_cancel (under x + under y) positive
        (c_trans (c_eq (gather a b (under x) (under y) (under (x +ℤ y))))
        (c_trans (c_add c_refl (c_add p.leaves q.leaves)) (c_eq (sym (add_parts x y)))));
  }
    where
      gather : (a b u v w : ℕ) → a + b + w + (u + v) ≡ w + (a + u + (b + v))
      gather a b u v w = omega arith

  pub leaves_neg : {x : ℤ} {a b : ℕ} → Cong m (a + b) 0 → Leaves m x a → Leaves m (neg_ℤ x) b
  leaves_neg {x} {a} {b} e p = record {
    leaves =
        c_trans (c_eq (ap (λ (n : ℕ). b + n) (neg_under x)))
        (c_trans (c_add c_refl (c_sym p.leaves))
        (c_trans (c_eq (gather a b (under x))) (c_trans (c_add e c_refl) (c_eq (zero-add (under x) ∙ sym (neg-over x))))));
  }
    where
      gather : (a b u : ℕ) → b + (a + u) ≡ a + b + u
      gather a b u = omega arith

  pub leaves_mul : {x y : ℤ} {a b : ℕ} → Leaves m x a → Leaves m y b → Leaves m (x *ℤ y) (a * b)
  leaves_mul {x} {y} {a} {b} p q = record {
    leaves = c_cancel (over x * under y + under x * over y) positive
        (c_trans (c_add c_refl (c_add (c_mul (c_sym p.leaves) c_refl) (c_mul c_refl (c_sym q.leaves))))
        (c_trans (c_eq (gather a b (under x) (under y) (under (x *ℤ y))))
        (c_trans (c_add c_refl (c_add (c_mul p.leaves q.leaves) c_refl)) (c_eq (sym (mul_parts x y))))));
  }
    where
      gather : (a b u v w : ℕ) → a * b + w + ((a + u) * v + u * (b + v)) ≡ w + ((a + u) * (b + v) + u * v)
      gather a b u v w = omega arith

  pub residue_below : (z : ℤ) → residue m z < m
  unfolding residue
  residue_below (pos n) = mod-lt n positive
  residue_below (negsuc n) = mod-lt (m - suc n % m) positive
