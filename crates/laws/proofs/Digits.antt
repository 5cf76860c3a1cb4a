-- A number from its digits and back, in any base b.
use mathlib.Core.Path.{◌≡◌, sym, ap, ◌∙◌, subst}
use mathlib.Core.Logic.{◌⊎◌, inl, inr}
use Prim.Native.Nat.{ℕ, zero, suc, ◌+◌, ◌*◌, ◌-◌, ◌/◌, ◌%◌, ◌^◌, ◌<◌}
use native.Mathlib.Nat.{one-le-pow, pow-zero, pow-suc, mod-lt, mod-eq_of_lt, mod-one, div-add-mod'}
use native.Mathlib.Nat.{add-mul-mod_self_right, add-mul-div_right, div-eq_of_lt, zero-add}
use native.Mathlib.Nat.{mul_comm, mul-le-mul_right, not-suc-le-zero, eq-or-lt_of_le, le_of_suc-le-suc}
use native.Mathlib.Omega.{arith}
use lib.Pow.{pow-add}
use Rattle.laws.specs.Digits.{digit, number}
use Rattle.laws.specs.Sums.{total}
use Rattle.laws.proofs.Sums.{total_ext}

pow_positive : (b n : ℕ) → 0 < b → 0 < b ^ n
pow_positive b n h = one-le-pow n b h

pub number_ext : (b n : ℕ) (f g : ℕ → ℕ) → ((i : ℕ) → i < n → f i ≡ g i) → number b n f ≡ number b n g
unfolding number
number_ext b n f g e = total_ext n (λ i. f i * b ^ i) (λ i. g i * b ^ i) (λ i h. ap (λ (d : ℕ). d * b ^ i) (e i h))

-- a remainder by a product, from the remainders by its factors
mod-product : (x m b : ℕ) → 0 < m → 0 < b → x % (m * b) ≡ x % m + x / m % b * m
mod-product x m b hm hb =
    ap (λ (n : ℕ). n % (m * b)) (sym (regroup x m b (x / m) (x % m) (x / m / b) (x / m % b) (div-add-mod' x m) (div-add-mod' (x / m) b)))
    ∙ add-mul-mod_self_right (x % m + x / m % b * m) (x / m / b) (m * b)
    ∙ mod-eq_of_lt (small m b (x % m) (x / m % b) (mod-lt x hm) (mod-lt (x / m) hb))
  where
    regroup : (x m b q r s t : ℕ) → q * m + r ≡ x → s * b + t ≡ q → r + t * m + s * (m * b) ≡ x
    regroup x m b q r s t e f = omega (arith, ap (λ (n : ℕ). n * m) f)

    small : (m b r t : ℕ) → r < m → t < b → r + t * m < m * b
    small m b r t hr ht = omega (arith, mul-le-mul_right m ht)

pub number_digits : (b n x : ℕ) → 0 < b → number b n (digit b x) ≡ x % b ^ n
unfolding number total digit
number_digits b zero x h = sym (mod-one x) ∙ ap (λ (m : ℕ). x % m) (sym (pow-zero b))
number_digits b (suc n) x h =
    ap (λ (m : ℕ). m + x / b ^ n % b * b ^ n) (number_digits b n x h) ∙ sym (mod-product x (b ^ n) b (pow_positive b n h) h)
    ∙ ap (λ (m : ℕ). x % m) (sym (pow-suc b n))

pub number_lt : (b n : ℕ) (f : ℕ → ℕ) → 0 < b → ((i : ℕ) → i < n → f i < b) → number b n f < b ^ n
unfolding number total
number_lt b zero f h e = subst (λ (m : ℕ). 0 < m) (sym (pow-zero b)) (omega arith)
number_lt b (suc n) f h e =
    subst (λ (m : ℕ). total n (λ i. f i * b ^ i) + f n * b ^ n < m) (sym (pow-suc b n ∙ mul_comm (b ^ n) b))
    (room (total n (λ i. f i * b ^ i)) (f n) (b ^ n) b (number_lt b n f h (λ i l. e i (omega arith))) (e n (omega arith)))
  where
    room : (s d m b : ℕ) → s < m → d < b → s + d * m < b * m
    room s d m b hs hd = omega (arith, mul-le-mul_right m hd)

-- the digit at k of a number with one digit more on top
digit_below : (b n k s d : ℕ) → 0 < b → k < n → digit b (s + d * b ^ n) k ≡ digit b s k
unfolding digit
digit_below b n k s d h l =
    ap (λ (m : ℕ). m / b ^ k % b) (ap (λ (m : ℕ). s + m) (split b n k d l))
    ∙ ap (λ (m : ℕ). m % b) (add-mul-div_right s (d * b ^ (n - suc k) * b) (pow_positive b k h))
    ∙ add-mul-mod_self_right (s / b ^ k) (d * b ^ (n - suc k)) b
  where
    split : (b n k d : ℕ) → k < n → d * b ^ n ≡ d * b ^ (n - suc k) * b * b ^ k
    split b n k d l =
        let e : n ≡ n - suc k + suc k = omega arith in
        ap (λ (m : ℕ). d * b ^ m) e ∙ ap (λ (m : ℕ). d * m) (pow-add b (n - suc k) (suc k)) ∙ ap (λ (m : ℕ). d * (b ^ (n - suc k) * m)) (pow-suc b k)
        ∙ regroup d (b ^ (n - suc k)) (b ^ k) b
      where
        regroup : (d x y b : ℕ) → d * (x * (y * b)) ≡ d * x * b * y
        regroup d x y b = omega arith

digit_top : (b n s d : ℕ) → 0 < b → s < b ^ n → d < b → digit b (s + d * b ^ n) n ≡ d
unfolding digit
digit_top b n s d h hs hd =
    ap (λ (m : ℕ). m % b) (add-mul-div_right s d (pow_positive b n h) ∙ ap (λ (m : ℕ). m + d) (div-eq_of_lt hs) ∙ zero-add d) ∙ mod-eq_of_lt hd

pub digit-number : (b n : ℕ) (f : ℕ → ℕ) → 0 < b → ((i : ℕ) → i < n → f i < b) → (k : ℕ) → k < n → digit b (number b n f) k ≡ f k
unfolding number total
digit-number b zero f h e k l = absurd (not-suc-le-zero l)
digit-number b (suc n) f h e k l = go (digit-number b n f h (λ i q. e i (omega arith)) k) (eq-or-lt_of_le (le_of_suc-le-suc l))
  where
    s : ℕ
    s = total n (λ i. f i * b ^ i)

    go : (k < n → digit b s k ≡ f k) → (k ≡ n) ⊎ (k < n) → digit b (s + f n * b ^ n) k ≡ f k
    go ih (inl q) =
        subst (λ (m : ℕ). digit b (s + f n * b ^ n) m ≡ f m) (sym q)
        (digit_top b n s (f n) h (number_lt b n f h (λ i p. e i (omega arith))) (e n (omega arith)))
    go ih (inr q) = digit_below b n k s (f n) h q ∙ ih q
