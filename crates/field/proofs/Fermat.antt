-- Fermat's theorem for p: x ^ (p - 1) is 1 modulo p for every x from 1 to p - 1, since 7 generates them all. So x ^ (p - 2) is the inverse
-- of x, and there is no other.
use Rattle.std.proofs.Common.{◌≡◌, ℕ, ◌-◌, ◌*◌, ◌%◌, ◌^◌, ◌<◌, T, List, []}
use Rattle.std.proofs.Common.{◌∷◌, sym, refl, ap, ◌∙◌, mod-eq_of_lt, mul_assoc, mul_comm, one-mul, pow-suc}
use Rattle.laws.proofs.Congruence.{mul_mod_l}
use Rattle.laws.proofs.Generators.{fermat_by, generates, factors_pass, factor_passes, undivided}
use Rattle.laws.proofs.Powers.{powmod, factor}
use Rattle.field.specs.Field.{P}

-- the prime factors of p - 1 = 2^32 * 3 * 5 * 17 * 257 * 65537, each with how far its trial division goes
factors : List (ℕ × ℕ)
factors =
    (2, 0) ∷ (2, 0) ∷ (2, 0) ∷ (2, 0) ∷ (2, 0) ∷ (2, 0) ∷ (2, 0) ∷ (2, 0)
    ∷ (2, 0) ∷ (2, 0) ∷ (2, 0) ∷ (2, 0) ∷ (2, 0) ∷ (2, 0) ∷ (2, 0) ∷ (2, 0)
    ∷ (2, 0) ∷ (2, 0) ∷ (2, 0) ∷ (2, 0) ∷ (2, 0) ∷ (2, 0) ∷ (2, 0) ∷ (2, 0)
    ∷ (2, 0) ∷ (2, 0) ∷ (2, 0) ∷ (2, 0) ∷ (2, 0) ∷ (2, 0) ∷ (2, 0) ∷ (2, 0)
    ∷ (3, 0) ∷ (5, 1) ∷ (17, 3) ∷ (257, 15) ∷ (65537, 255) ∷ []

seven_generates : T (generates P 7 (P - 1) 64 factors)
unfolding generates factors_pass factor_passes undivided powmod factor factors
seven_generates = tt

pub fermat : (x : ℕ) → 0 < x → x < P → (x ^ (P - 1)) % P ≡ 1
fermat = fermat_by P 7 (P - 1) 64 factors refl seven_generates

-- x ^ (p - 2) times x is 1
pub inverse_is : (x : ℕ) → 0 < x → x < P → ((x ^ (P - 2)) % P * x) % P ≡ 1
inverse_is x l h = mul_mod_l P (x ^ (P - 2)) x ∙ ap (λ (n : ℕ). n % P) (sym (pow-suc x (P - 2))) ∙ fermat x l h

-- a factor but 0 may be cancelled
pub cancel : (x a b : ℕ) → 0 < x → x < P → (a * x) % P ≡ (b * x) % P → a % P ≡ b % P
cancel x a b l h e =
    sym (out a) ∙ sym (mul_mod_l P (a * x) i) ∙ ap (λ (n : ℕ). (n * i) % P) e ∙ mul_mod_l P (b * x) i ∙ out b
  where
    i : ℕ
    i = (x ^ (P - 2)) % P

    x_times_i : (x * i) % P ≡ 1
    x_times_i = ap (λ (n : ℕ). n % P) (mul_comm x i) ∙ inverse_is x l h

    out : (c : ℕ) → (c * x * i) % P ≡ c % P
    out c =
        ap (λ (n : ℕ). n % P) (mul_assoc c x i ∙ mul_comm c (x * i)) ∙ sym (mul_mod_l P (x * i) c)
        ∙ ap (λ (n : ℕ). (n * c) % P) x_times_i ∙ ap (λ (n : ℕ). n % P) (one-mul c)

-- so nothing else below p is an inverse of x
pub inverse_only : (x y : ℕ) → 0 < x → x < P → y < P → (y * x) % P ≡ 1 → y ≡ (x ^ (P - 2)) % P
inverse_only x y l h hy e =
    sym (mod-eq_of_lt hy) ∙ cancel x y (x ^ (P - 2)) l h (e ∙ sym (inverse_is x l h) ∙ mul_mod_l P (x ^ (P - 2)) x)
