-- Numbers modulo m: remainders inside a sum or a product may be taken or left.
use mathlib.Core.Path.{◌≡◌, refl, sym, ap, ◌∙◌}
use Prim.Native.Nat.{ℕ, ◌+◌, ◌*◌, ◌-◌, ◌/◌, ◌%◌, ◌≤◌, ◌<◌}
use native.Mathlib.Nat.{mod-mod, mod-eq_of_lt, add-mod, mod-add-mod, add-mod-mod, add-mul-mod_self_right}
use native.Mathlib.Nat.{add-mod_right, div-add-mod', mul_comm, le_of_lt, mod-lt, zero-add}
use native.Mathlib.Omega.{arith}
use Rattle.laws.specs.Congruence.{Cong}

pub mul_mod_l : (m a b : ℕ) → (a % m * b) % m ≡ (a * b) % m
mul_mod_l m a b =
    sym (add-mul-mod_self_right (a % m * b) (a / m * b) m) ∙ ap (λ (n : ℕ). n % m) whole
  where
    whole : a % m * b + a / m * b * m ≡ a * b
    whole = omega (arith, ap (λ (n : ℕ). n * b) (div-add-mod' a m))

pub mul_mod_r : (m a b : ℕ) → (a * (b % m)) % m ≡ (a * b) % m
mul_mod_r m a b = ap (λ (n : ℕ). n % m) (mul_comm a (b % m)) ∙ mul_mod_l m b a ∙ ap (λ (n : ℕ). n % m) (mul_comm b a)

-- the remainders that `simp mods` takes away, one level deep
pub ruleset mods = (mod-mod, mod-add-mod, add-mod-mod, mul_mod_l, mul_mod_r)

pub c_refl : {m a : ℕ} → Cong m a a
c_refl = record { same = refl }

pub c_eq : {m a b : ℕ} → a ≡ b → Cong m a b
c_eq {m} e = record { same = ap (λ (n : ℕ). n % m) e }

pub c_trans : {m a b c : ℕ} → Cong m a b → Cong m b c → Cong m a c
c_trans p q = record { same = p.same ∙ q.same }

pub c_sym : {m a b : ℕ} → Cong m a b → Cong m b a
c_sym p = record { same = sym p.same }

pub c_mod : {m a : ℕ} → Cong m (a % m) a
c_mod {m} {a} = record { same = mod-mod a m }

pub c_add : {m a a' b b' : ℕ} → Cong m a a' → Cong m b b' → Cong m (a + b) (a' + b')
c_add {m} {a} {a'} {b} {b'} p q =
    record { same = add-mod a b m ∙ (λ i. (p.same i + q.same i) % m) ∙ sym (add-mod a' b' m) }

pub c_mul : {m a a' b b' : ℕ} → Cong m a a' → Cong m b b' → Cong m (a * b) (a' * b')
c_mul {m} {a} {a'} {b} {b'} p q = record { same = halves a b ∙ (λ i. (p.same i * q.same i) % m) ∙ sym (halves a' b') }
  where
    halves : (x y : ℕ) → (x * y) % m ≡ (x % m * (y % m)) % m
    halves x y = sym (mul_mod_l m x y) ∙ sym (mul_mod_r m (x % m) y)

-- a multiple of m counts for nothing
pub c_multiple : {m a : ℕ} (k : ℕ) → Cong m (a + k * m) a
c_multiple {m} {a} k = record { same = add-mul-mod_self_right a k m }

-- x + y ≡ z modulo m, solved for x
pub solve : (m x y z : ℕ) → x < m → y ≤ m → (x + y) % m ≡ z % m → x ≡ (z + (m - y)) % m
solve m x y z hx hy e =
    sym (mod-eq_of_lt hx) ∙ sym (add-mod_right x m) ∙ ap (λ (n : ℕ). n % m) (back m x y hy)
    ∙ sym (mod-add-mod (x + y) m (m - y)) ∙ ap (λ (n : ℕ). (n + (m - y)) % m) e ∙ mod-add-mod z m (m - y)
  where
    back : (m x y : ℕ) → y ≤ m → x + m ≡ x + y + (m - y)
    back m x y h = omega arith

-- m less the remainder of x stands for -x
pub c_neg : {m : ℕ} (x : ℕ) → 0 < m → Cong m (m - x % m + x) 0
c_neg {m} x pos =
    c_trans (c_eq (regroup m x (x / m) (x % m) (div-add-mod' x m) (le_of_lt (mod-lt x pos)))) (c_multiple (x / m + 1))
  where
    regroup : (m x q r : ℕ) → q * m + r ≡ x → r ≤ m → m - r + x ≡ 0 + (q + 1) * m
    regroup m x q r e h = omega arith

-- a summand may be cancelled
pub c_cancel : {m a b : ℕ} (c : ℕ) → 0 < m → Cong m (a + c) (b + c) → Cong m a b
c_cancel {m} {a} {b} c pos e = c_trans (c_sym (gone a)) (c_trans (c_add e c_refl) (gone b))
  where
    swap : (x c r : ℕ) → x + c + r ≡ r + c + x
    swap x c r = omega arith

    gone : (x : ℕ) → Cong m (x + c + (m - c % m)) x
    gone x = c_trans (c_eq (swap x c (m - c % m))) (c_trans (c_add (c_neg c pos) c_refl) (c_eq (zero-add x)))
