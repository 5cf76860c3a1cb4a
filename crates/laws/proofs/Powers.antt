-- Powers modulo m: their laws, and two ways in which they are computed: by halving the exponent, and digit by digit from its top.
use mathlib.Core.Path.{◌≡◌, refl, sym, ap, ◌∙◌, subst}
use mathlib.Core.Logic.{◌⊎◌, inl, inr}
use Prim.Native.Nat.{ℕ, zero, suc, ◌+◌, ◌*◌, ◌-◌, ◌/◌, ◌%◌, ◌^◌, ◌≤◌, ◌<◌}
use native.Mathlib.Nat.{pow-zero, pow-suc, one-mul, mul-one, mul-zero, mul-suc, add-zero, mod-lt}
use native.Mathlib.Nat.{mod-eq_of_lt, div-add-mod', two-pow-succ, div-div-eq-div-mul, eq-zero-or-pos, zero-div, div-eq_of_lt}
use native.Mathlib.Numerals.{add-one}
use native.Mathlib.Omega.{arith}
use lib.Arith.{lt-one}
use lib.Count.{count_leading_zeros, leading_top}
use lib.Dec.{lit<}
use lib.Pow.{pow-add}
use Rattle.laws.proofs.Congruence.{mods, mul_mod_l, mul_mod_r}

pub pow-mul : (x a b : ℕ) → x ^ (a * b) ≡ (x ^ a) ^ b
pow-mul x a zero = ap (λ (n : ℕ). x ^ n) (mul-zero a) ∙ pow-zero x ∙ sym (pow-zero (x ^ a))
pow-mul x a (suc b) = ap (λ (n : ℕ). x ^ n) (mul-suc a b) ∙ pow-add x (a * b) a ∙ ap (λ (n : ℕ). n * x ^ a) (pow-mul x a b) ∙ sym (pow-suc (x ^ a) b)

pub mul-pow : (x y e : ℕ) → (x * y) ^ e ≡ x ^ e * y ^ e
mul-pow x y zero = pow-zero (x * y) ∙ sym (mul-one 1) ∙ (λ i. sym (pow-zero x) i * sym (pow-zero y) i)
mul-pow x y (suc e) = simp (pow-suc, mul-pow x y e) (omega arith)

pub one-pow : (e : ℕ) → 1 ^ e ≡ 1
one-pow zero = refl
one-pow (suc e) = pow-suc 1 e ∙ mul-one (1 ^ e) ∙ one-pow e

-- the power of a remainder
pub pow-mod : (m x e : ℕ) → ((x % m) ^ e) % m ≡ (x ^ e) % m
pow-mod m x zero = simp (pow-zero (x % m), pow-zero x)
pow-mod m x (suc e) =
    ap (λ (n : ℕ). n % m) (pow-suc (x % m) e) ∙ mul_mod_r m ((x % m) ^ e) x ∙ sym (mul_mod_l m ((x % m) ^ e) x)
    ∙ ap (λ (n : ℕ). (n * x) % m) (pow-mod m x e) ∙ mul_mod_l m (x ^ e) x ∙ ap (λ (n : ℕ). n % m) (sym (pow-suc x e))

-- a number below m is its first power
pub first_power : (m x : ℕ) → x < m → x ≡ (x ^ 1) % m
first_power m x h = sym (mod-eq_of_lt h) ∙ ap (λ (n : ℕ). n % m) (sym (pow-suc x 0 ∙ ap (λ (n : ℕ). n * x) (pow-zero x) ∙ one-mul x))

-- the product of two powers
pub mul_powers : (m x a b s t : ℕ) → s ≡ (x ^ a) % m → t ≡ (x ^ b) % m → (s * t) % m ≡ (x ^ (a + b)) % m
mul_powers m x a b s t e f = (λ i. (e i * f i) % m) ∙ simp mods (ap (λ (n : ℕ). n % m) (sym (pow-add x a b)))

-- a power of a power
pub pow_powers : (m x a b s : ℕ) → s ≡ (x ^ a) % m → (s ^ b) % m ≡ (x ^ (a * b)) % m
pow_powers m x a b s e = ap (λ (n : ℕ). (n ^ b) % m) e ∙ pow-mod m (x ^ a) b ∙ ap (λ (n : ℕ). n % m) (sym (pow-mul x a b))

-- the digits of b behind those of a: the exponent a raised by a factor k, and b added
pub append_powers : (m x a b k s t : ℕ) → s ≡ (x ^ a) % m → t ≡ (x ^ b) % m → (s ^ k * t) % m ≡ (x ^ (a * k + b)) % m
append_powers m x a b k s t e f = sym (mul_mod_l m (s ^ k) t) ∙ mul_powers m x (a * k) b ((s ^ k) % m) t (pow_powers m x a k s e) f

-- ---- by halving: what a computed test uses, with as much fuel as the exponent has bits
unfoldable pub factor : ℕ → ℕ → ℕ → ℕ → ℕ
factor m x zero h = h
factor m x (suc b) h = (h * x) % m

unfoldable pub powmod : ℕ → ℕ → ℕ → ℕ → ℕ
unfolding factor
powmod m zero x e = 1 % m
powmod m (suc fuel) x e = factor m x (e % 2) (powmod m fuel ((x * x) % m) (e / 2))

double : (m x n : ℕ) → (((x * x) % m) ^ n) % m ≡ (x ^ (n * 2)) % m
double m x n = pow-mod m (x * x) n ∙ ap (λ (k : ℕ). k % m) (mul-pow x x n ∙ sym (pow-add x n n) ∙ ap (λ (k : ℕ). x ^ k) (omega arith))

factor_is : (m x b h n : ℕ) → b < 2 → h ≡ (x ^ (n * 2)) % m → factor m x b h ≡ (x ^ (n * 2 + b)) % m
unfolding factor
factor_is m x zero h n l e = e ∙ ap (λ (k : ℕ). (x ^ k) % m) (sym (add-zero (n * 2)))
factor_is m x (suc zero) h n l e =
    ap (λ (k : ℕ). (k * x) % m) e ∙ mul_mod_l m (x ^ (n * 2)) x
    ∙ ap (λ (k : ℕ). k % m) (sym (pow-suc x (n * 2)) ∙ ap (λ (k : ℕ). x ^ k) (omega arith))
factor_is m x (suc (suc b)) h n l e = absurd (omega arith)

half_lt : (fuel e : ℕ) → e < 2 ^ suc fuel → e / 2 < 2 ^ fuel
half_lt fuel e h = omega arith

pub powmod_is : (m fuel x e : ℕ) → e < 2 ^ fuel → powmod m fuel x e ≡ (x ^ e) % m
unfolding powmod
powmod_is m zero x e h = ap (λ (n : ℕ). n % m) (sym (pow-zero x) ∙ ap (λ (k : ℕ). x ^ k) (sym (lt-one h)))
powmod_is m (suc fuel) x e h =
    factor_is m x (e % 2) (powmod m fuel ((x * x) % m) (e / 2)) (e / 2) (mod-lt e (lit< tt))
    (powmod_is m fuel ((x * x) % m) (e / 2) (half_lt fuel e h) ∙ double m x (e / 2))
    ∙ ap (λ (k : ℕ). (x ^ k) % m) (div-add-mod' e 2)

-- ---- by squaring and multiplying, from the exponent's top digit down: what a loop does
pub twice : (i : ℕ) → 2 ^ i + 2 ^ i ≡ 2 ^ (i + 1)
twice i = sym (two-pow-succ i) ∙ ap (λ (n : ℕ). 2 ^ n) (sym (add-one i))

-- above its top digit a number of w bits has none
pub above : (w e : ℕ) → e < 2 ^ w → e / 2 ^ (w - count_leading_zeros w e) ≡ 0
above w e h = go (eq-zero-or-pos e)
  where
    go : (e ≡ 0) ⊎ (0 < e) → e / 2 ^ (w - count_leading_zeros w e) ≡ 0
    go (inl z) = ap (λ (n : ℕ). n / 2 ^ (w - count_leading_zeros w e)) z ∙ zero-div (2 ^ (w - count_leading_zeros w e))
    go (inr p) =
        let top : (j : ℕ) × (count_leading_zeros w e + suc j ≡ w) × (2 ^ j ≤ e) × (e < 2 ^ suc j) = leading_top w e p h in
        div-eq_of_lt (subst (λ (n : ℕ). e < 2 ^ n) (omega (arith, top.1)) top.3)

-- twice the digits above k and the digit at k are the digits from k on
next_digit : (e k : ℕ) → e / 2 ^ suc k + e / 2 ^ suc k + (e / 2 ^ k) % 2 ≡ e / 2 ^ k
next_digit e k =
    ap (λ (n : ℕ). n + n + (e / 2 ^ k) % 2) (ap (λ (n : ℕ). e / n) (pow-suc 2 k) ∙ sym (div-div-eq-div-mul e (2 ^ k) 2))
    ∙ halves (e / 2 ^ k)
  where
    halves : (n : ℕ) → n / 2 + n / 2 + n % 2 ≡ n
    halves n = omega arith

-- one turn, from the digits above k to those from k on: t is the square of s
module _ (m x e k s t : ℕ) (hs : s ≡ (x ^ (e / 2 ^ suc k)) % m) (ht : t ≡ (s * s) % m) where
  squared : t ≡ (x ^ (e / 2 ^ suc k + e / 2 ^ suc k)) % m
  squared = ht ∙ mul_powers m x (e / 2 ^ suc k) (e / 2 ^ suc k) s s hs hs

  to_next : (d : ℕ) → (e / 2 ^ k) % 2 ≡ d → (x ^ (e / 2 ^ suc k + e / 2 ^ suc k + d)) % m ≡ (x ^ (e / 2 ^ k)) % m
  to_next d h = ap (λ (n : ℕ). (x ^ n) % m) (ap (λ (n : ℕ). e / 2 ^ suc k + e / 2 ^ suc k + n) (sym h) ∙ next_digit e k)

  pub digit_0 : (e / 2 ^ k) % 2 ≡ 0 → t ≡ (x ^ (e / 2 ^ k)) % m
  digit_0 z = squared ∙ ap (λ (n : ℕ). (x ^ n) % m) (sym (add-zero (e / 2 ^ suc k + e / 2 ^ suc k))) ∙ to_next 0 z

  pub digit_1 : x < m → (e / 2 ^ k) % 2 ≡ 1 → (t * x) % m ≡ (x ^ (e / 2 ^ k)) % m
  digit_1 h o = mul_powers m x (e / 2 ^ suc k + e / 2 ^ suc k) 1 t x squared (first_power m x h) ∙ to_next 1 o
