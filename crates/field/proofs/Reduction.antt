-- Montgomery's reduction on plain numbers: a is the sum of the low half of x with its own shift, e that sum's carry, b what is taken from
-- the high half.
use Rattle.std.proofs.Common.{◌≡◌, ℕ, ◌+◌, ◌-◌, ◌*◌, ◌/◌, ◌%◌, ◌^◌, ◌<◌, nat_lt}
use Rattle.std.proofs.Common.{[], ◌∷◌, sym, refl, ap, ◌∙◌, mod-eq_of_lt, arith, lit<}
use mir.Val.{bool_byte}
use Rattle.laws.proofs.ModularSolver.{mod_ring, at, lit, neg, ◌⊞◌, ◌⊠◌}
use Rattle.field.specs.Field.{P, R2, reduced}

-- a sum that wrapped is below each of its summands, and no other is
carry : (x y a e : ℕ) → x < 2 ^ 64 → y < 2 ^ 64 → a ≡ (x + y) % 2 ^ 64 → e ≡ bool_byte (nat_lt a x) → a + e * 2 ^ 64 ≡ x + y
carry x y a e hx hy s f = grind arith

module _ (x a e b : ℕ) (sum : a ≡ (x % 2 ^ 64 + x % 2 ^ 64 * 2 ^ 32 % 2 ^ 64) % 2 ^ 64) (lost : e ≡ bool_byte (nat_lt a (x % 2 ^ 64)))
    (taken : b ≡ ((a + (2 ^ 64 - a / 2 ^ 32)) % 2 ^ 64 + (2 ^ 64 - e)) % 2 ^ 64) where
  whole_sum : a + e * 2 ^ 64 ≡ x % 2 ^ 64 + x % 2 ^ 64 * 2 ^ 32 % 2 ^ 64
  whole_sum = carry (x % 2 ^ 64) (x % 2 ^ 64 * 2 ^ 32 % 2 ^ 64) a e (omega arith) (omega arith) sum lost

  -- b and the low half together are a multiple of p
  multiple : b * 2 ^ 64 + x % 2 ^ 64 ≡ a * P
  multiple = omega (arith, whole_sum)

  pub b_below : b < P
  b_below = omega (arith, whole_sum)

  -- so the high half less b, modulo p, is x divided by 2^64: 2^64 times R2 is 1
  pub reduced_is : (x / 2 ^ 64 + (P - b)) % P ≡ reduced x
  unfolding reduced
  reduced_is =
      ap (λ (n : ℕ). (x / 2 ^ 64 + (P - n)) % P) (sym (mod-eq_of_lt b_below))
      ∙ mod_ring P (lit< tt) (x / 2 ^ 64 ∷ a ∷ b ∷ []) (at 0 ⊞ neg (at 2)) ((at 0 ⊠ lit (2 ^ 64) ⊞ at 1 ⊠ lit P) ⊠ lit R2 ⊞ neg (at 2)) refl
      ∙ ap (λ (n : ℕ). (n * R2 + (P - b % P)) % P) regroup
      ∙ mod_ring P (lit< tt) (x ∷ b ∷ []) ((at 0 ⊞ at 1 ⊠ lit (2 ^ 64)) ⊠ lit R2 ⊞ neg (at 1)) (at 0 ⊠ lit R2) refl
    where
      regroup : x / 2 ^ 64 * 2 ^ 64 + a * P ≡ x + b * 2 ^ 64
      regroup = omega (arith, multiple)
