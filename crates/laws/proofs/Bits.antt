-- The digits of sums of blocks, of `xor`, `and`, `or`, and of a complement; what a complement does to them.
use mathlib.Core.Path.{◌≡◌, refl, sym, ap, ap₂, ◌∙◌}
use mathlib.Core.Logic.{◌⊎◌, inl, inr, ⊎_elim}
use Prim.Native.Nat.{ℕ, zero, suc, ◌+◌, ◌-◌, ◌*◌, ◌/◌, ◌%◌, ◌^◌, ◌<◌, ◌≤◌}
use native.Mathlib.Nat.{pow-zero, pow-suc, add_comm, add-zero, not-suc-le-zero, le_of_suc-le-suc, mod-eq_of_lt, div-one, div-eq_of_lt, lt_of_lt_of_le}
use native.Mathlib.Numerals.{add-one}
use native.Mathlib.Omega.{arith}
use lib.Bits.{bit_xor, bit_and, bit_or, xor_comm, xor_lt, xor_shr, xor_mod, xor_add_and, and_lt, and_shr, and_mod, and_mask, or_lt, or_shr, or_mod}
use lib.Bits.{block_half, block_odd}
use lib.Pow.{pow_pos, pow_mono, split, high, shr-shr, ones_split}
use Rattle.laws.specs.Bits.{bit}

pub bit-lt : (n z : ℕ) → bit n z < 2
unfolding bit
bit-lt n z = omega arith

pub zero_or_one : (x : ℕ) → x < 2 → (x ≡ 0) ⊎ (x ≡ 1)
zero_or_one zero h = inl refl
zero_or_one (suc zero) h = inr refl
zero_or_one (suc (suc x)) h = absurd (not-suc-le-zero (le_of_suc-le-suc (le_of_suc-le-suc h)))

-- two functions of two digits that agree at the four pairs
on_digits : (f g : ℕ → ℕ → ℕ) → f 0 0 ≡ g 0 0 → f 0 1 ≡ g 0 1 → f 1 0 ≡ g 1 0 → f 1 1 ≡ g 1 1 → (x y : ℕ) → x < 2 → y < 2 → f x y ≡ g x y
on_digits f g e00 e01 e10 e11 x y hx hy =
    ⊎_elim
    (λ p. ⊎_elim (λ q. ap₂ f p q ∙ e00 ∙ sym (ap₂ g p q)) (λ q. ap₂ f p q ∙ e01 ∙ sym (ap₂ g p q)) (zero_or_one y hy))
    (λ p. ⊎_elim (λ q. ap₂ f p q ∙ e10 ∙ sym (ap₂ g p q)) (λ q. ap₂ f p q ∙ e11 ∙ sym (ap₂ g p q)) (zero_or_one y hy))
    (zero_or_one x hx)

pub bit-xor : (a b z : ℕ) → bit (bit_xor a b) z ≡ (bit a z + bit b z) % 2
unfolding bit
bit-xor a b z =
    ap (λ (n : ℕ). n % 2) (xor_shr a b z) ∙ xor_mod (a / 2 ^ z) (b / 2 ^ z) 1
    ∙ on_digits bit_xor (λ x y. (x + y) % 2) refl refl refl refl (a / 2 ^ z % 2) (b / 2 ^ z % 2) (omega arith) (omega arith)

pub bit-and : (a b z : ℕ) → bit (bit_and a b) z ≡ bit a z * bit b z
unfolding bit
bit-and a b z =
    ap (λ (n : ℕ). n % 2) (and_shr a b z) ∙ and_mod (a / 2 ^ z) (b / 2 ^ z) 1
    ∙ on_digits bit_and (λ x y. x * y) refl refl refl refl (a / 2 ^ z % 2) (b / 2 ^ z % 2) (omega arith) (omega arith)

pub bit-or : (a b z : ℕ) → bit (bit_or a b) z ≡ (bit a z + bit b z + bit a z * bit b z) % 2
unfolding bit
bit-or a b z =
    ap (λ (n : ℕ). n % 2) (or_shr a b z) ∙ or_mod (a / 2 ^ z) (b / 2 ^ z) 1
    ∙ on_digits bit_or (λ x y. (x + y + x * y) % 2) refl refl refl refl (a / 2 ^ z % 2) (b / 2 ^ z % 2) (omega arith) (omega arith)

-- a number cut at place k: its digits above, and below
pub bit_high : (h l k z : ℕ) → l < 2 ^ k → bit (h * 2 ^ k + l) (k + z) ≡ bit h z
unfolding bit
bit_high h l k z e = ap (λ (n : ℕ). n % 2) (sym (shr-shr (h * 2 ^ k + l) k z)) ∙ ap (λ (n : ℕ). n / 2 ^ z % 2) (high h k e)

bit-suc : (n z : ℕ) → bit n (suc z) ≡ bit (n / 2) z
unfolding bit
bit-suc n z = ap (λ (k : ℕ). n / 2 ^ k % 2) (sym (add-one z) ∙ add_comm z 1) ∙ ap (λ (m : ℕ). m % 2) (sym (shr-shr n 1 z))

pub bit-low : (k z h l : ℕ) → z < k → bit (h * 2 ^ k + l) z ≡ bit l z
bit-low zero z h l e = absurd (not-suc-le-zero e)
bit-low (suc k) zero h l e =
    unfold bit in ap (λ (m : ℕ). m % 2) (div-one (h * 2 ^ suc k + l)) ∙ block_odd h k l ∙ sym (ap (λ (m : ℕ). m % 2) (div-one l))
bit-low (suc k) (suc z) h l e =
    bit-suc (h * 2 ^ suc k + l) z ∙ ap (λ (m : ℕ). bit m z) (block_half h k l) ∙ bit-low k z h (l / 2) (le_of_suc-le-suc e)
    ∙ sym (bit-suc l z)

pub bit-shr : (n k z : ℕ) → bit (n / 2 ^ k) z ≡ bit n (k + z)
unfolding bit
bit-shr n k z = ap (λ (m : ℕ). m % 2) (shr-shr n k z)

pub bit-mod : (n k z : ℕ) → z < k → bit (n % 2 ^ k) z ≡ bit n z
bit-mod n k z h = sym (bit-low k z (n / 2 ^ k) (n % 2 ^ k) h) ∙ ap (λ (m : ℕ). bit m z) (split n k)

-- past its top a number's digits are 0
pub bit-small : (n z : ℕ) → n < 2 ^ z → bit n z ≡ 0
unfolding bit
bit-small n z h = ap (λ (m : ℕ). m % 2) (div-eq_of_lt h)

pub bit_past : (n k z : ℕ) → n < 2 ^ k → k ≤ z → bit n z ≡ 0
bit_past n k z h l = bit-small n z (lt_of_lt_of_le h (pow_mono {i = k} {j = z} l))

pub bit-zero : (z : ℕ) → bit 0 z ≡ 0
bit-zero z = bit-small 0 z (pow_pos z)

-- the digits of n * 2 ^ k
pub bit-shl : (n k z : ℕ) → bit (n * 2 ^ k) (k + z) ≡ bit n z
bit-shl n k z = ap (λ (m : ℕ). bit m (k + z)) (sym (add-zero (n * 2 ^ k))) ∙ bit_high n 0 k z (pow_pos k)

pub bit_shl_low : (n k z : ℕ) → z < k → bit (n * 2 ^ k) z ≡ 0
bit_shl_low n k z h = ap (λ (m : ℕ). bit m z) (sym (add-zero (n * 2 ^ k))) ∙ bit-low k z n 0 h ∙ bit-zero z

pub bit_add_zero : (n z : ℕ) → (bit n z + 0) % 2 ≡ bit n z
bit_add_zero n z = ap (λ (m : ℕ). m % 2) (add-zero (bit n z)) ∙ mod-eq_of_lt (bit-lt n z)

-- w ones
bit-ones : (j z : ℕ) → bit (2 ^ (suc j + z) - 1) z ≡ 1
bit-ones j z =
    ap (λ (n : ℕ). bit n z) (ones_split (suc j) z) ∙ ap (bit ((2 ^ suc j - 1) * 2 ^ z + (2 ^ z - 1))) (sym (add-zero z))
    ∙ bit_high (2 ^ suc j - 1) (2 ^ z - 1) z 0 (let p : 0 < 2 ^ z = pow_pos z in omega arith) ∙ lowest j
  where
    lowest : (j : ℕ) → bit (2 ^ suc j - 1) 0 ≡ 1
    lowest j =
        let e : suc j ≡ j + 1 = omega arith in
        ap (λ (n : ℕ). bit (2 ^ n - 1) 0) e ∙ ap (λ (n : ℕ). bit n 0) (ones_split j 1) ∙ bit-low 1 0 (2 ^ j - 1) 1 (omega arith)
        ∙ (unfold bit in refl)

-- the complement in w digits
not-xor : (w a : ℕ) → a < 2 ^ w → (2 ^ w - 1) - a ≡ bit_xor a (2 ^ w - 1)
not-xor w a h =
    let m : bit_and a (2 ^ w - 1) ≡ a = and_mask a w ∙ mod-eq_of_lt h in
    let e : bit_xor a (2 ^ w - 1) + bit_and a (2 ^ w - 1) * 2 ≡ a + (2 ^ w - 1) = xor_add_and a (2 ^ w - 1) in
    omega arith

pub bit_not : (w a z : ℕ) → a < 2 ^ w → z < w → bit ((2 ^ w - 1) - a) z ≡ (bit a z + 1) % 2
bit_not w a z h l =
    let e : w ≡ suc (w - suc z) + z = omega arith in
    ap (λ (n : ℕ). bit n z) (not-xor w a h) ∙ bit-xor a (2 ^ w - 1) z
    ∙ ap (λ (n : ℕ). (bit a z + n) % 2) (ap (λ (n : ℕ). bit (2 ^ n - 1) z) e ∙ bit-ones (w - suc z) z)

-- numbers with the same digits
pub bit_ext : (w a b : ℕ) → a < 2 ^ w → b < 2 ^ w → ((z : ℕ) → z < w → bit a z ≡ bit b z) → a ≡ b
unfolding bit
bit_ext zero a b ha hb e = let p : a ≡ 0 = omega (arith, pow-zero 2) in let q : b ≡ 0 = omega (arith, pow-zero 2) in p ∙ sym q
bit_ext (suc w) a b ha hb e =
    let half : a / 2 ≡ b / 2 =
    bit_ext w (a / 2) (b / 2) (omega (arith, pow-suc 2 w)) (omega (arith, pow-suc 2 w))
    (λ z h. sym (bit-suc a z) ∙ e (suc z) (omega arith) ∙ bit-suc b z) in
    let low : a % 2 ≡ b % 2 = ap (λ (n : ℕ). n % 2) (sym (div-one a)) ∙ e 0 (omega arith) ∙ ap (λ (n : ℕ). n % 2) (div-one b) in
    omega arith

lt-pow : (n : ℕ) → n < 2 ^ n
lt-pow zero = pow_pos 0
lt-pow (suc n) = let h : n < 2 ^ n = lt-pow n in omega (arith, pow-suc 2 n)

pub xor_assoc : (a b c : ℕ) → bit_xor (bit_xor a b) c ≡ bit_xor a (bit_xor b c)
xor_assoc a b c =
    let w : ℕ = a + b + c in
    let ha : a < 2 ^ (a + b + c) = lt_of_lt_of_le (lt-pow a) (pow_mono {i = a} {j = a + b + c} (omega arith)) in
    let hb : b < 2 ^ (a + b + c) = lt_of_lt_of_le (lt-pow b) (pow_mono {i = b} {j = a + b + c} (omega arith)) in
    let hc : c < 2 ^ (a + b + c) = lt_of_lt_of_le (lt-pow c) (pow_mono {i = c} {j = a + b + c} (omega arith)) in
    bit_ext w (bit_xor (bit_xor a b) c) (bit_xor a (bit_xor b c)) (xor_lt w _ _ (xor_lt w _ _ ha hb) hc) (xor_lt w _ _ ha (xor_lt w _ _ hb hc))
    (λ z h. bit-xor (bit_xor a b) c z ∙ ap (λ (n : ℕ). (n + bit c z) % 2) (bit-xor a b z) ∙ sums (bit a z) (bit b z) (bit c z)
    ∙ sym (bit-xor a (bit_xor b c) z ∙ ap (λ (n : ℕ). (bit a z + n) % 2) (bit-xor b c z)))
  where
    sums : (x y z : ℕ) → ((x + y) % 2 + z) % 2 ≡ (x + (y + z) % 2) % 2
    sums x y z = omega arith

-- a complement in w digits passes through `xor`, and turns `and` into `or`
pub not-not : (w a : ℕ) → a < 2 ^ w → (2 ^ w - 1) - ((2 ^ w - 1) - a) ≡ a
not-not w a h = omega arith

pub not-lt : (w a : ℕ) → (2 ^ w - 1) - a < 2 ^ w
not-lt w a = let p : 0 < 2 ^ w = pow_pos w in omega arith

pub xor-not : (w a b : ℕ) → a < 2 ^ w → b < 2 ^ w → bit_xor a ((2 ^ w - 1) - b) ≡ (2 ^ w - 1) - bit_xor a b
xor-not w a b ha hb = ap (bit_xor a) (not-xor w b hb) ∙ sym (xor_assoc a b (2 ^ w - 1)) ∙ sym (not-xor w (bit_xor a b) (xor_lt w a b ha hb))

pub not_xor_left : (w a b : ℕ) → a < 2 ^ w → b < 2 ^ w → bit_xor ((2 ^ w - 1) - a) b ≡ (2 ^ w - 1) - bit_xor a b
not_xor_left w a b ha hb = xor_comm _ b ∙ xor-not w b a hb ha ∙ ap (λ (n : ℕ). (2 ^ w - 1) - n) (xor_comm b a)

pub or-not : (w a b : ℕ) → a < 2 ^ w → b < 2 ^ w → bit_or a ((2 ^ w - 1) - b) ≡ (2 ^ w - 1) - bit_and ((2 ^ w - 1) - a) b
or-not w a b ha hb =
    let m : bit_and ((2 ^ w - 1) - a) b < 2 ^ w = and_lt w _ b (not-lt w a) hb in
    bit_ext w _ _ (or_lt w a _ ha (not-lt w b)) (not-lt w _)
    (λ z h. bit-or a _ z ∙ ap (λ (n : ℕ). (bit a z + n + bit a z * n) % 2) (bit_not w b z hb h)
    ∙ on_digits (λ x y. (x + (y + 1) % 2 + x * ((y + 1) % 2)) % 2) (λ x y. ((x + 1) % 2 * y + 1) % 2) refl refl refl refl
    (bit a z) (bit b z) (bit-lt a z) (bit-lt b z)
    ∙ sym (bit_not w _ z m h ∙ ap (λ (n : ℕ). (n + 1) % 2) (bit-and _ b z ∙ ap (λ (n : ℕ). n * bit b z) (bit_not w a z ha h))))
