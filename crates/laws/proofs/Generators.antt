-- Fermat's theorem for a modulus m whose numbers but 0 are all powers of one of them: x ^ (m - 1) is 1 modulo m. That g is such a number is
-- shown by one computed test over the prime factors of m - 1, each with the bound of its trial division; that m is prime is never asked.
--
use mathlib.Core.Path.{◌≡◌, sym, ap, ◌∙◌, subst}
use mathlib.Core.Bool.{Bool, true, not}
use mathlib.Core.List.{List, [], ◌∷◌}
use mathlib.Core.Logic.{◌⊎◌, inl, inr}
use Prim.Native.Nat.{ℕ, zero, suc, pred, ◌+◌, ◌*◌, ◌-◌, ◌/◌, ◌%◌, ◌^◌, ◌≤◌, ◌<◌}
use native.Mathlib.Nat.{one-mul, mul-one, mul_comm, mod-mod, div-add-mod', mod-lt, add-zero, eq-zero-or-pos, eq-or-lt_of_le}
use native.Mathlib.Nat.{le_refl, zero-mod, zero-mul, mul-mod_right, mul-le-mul, add-sub_of_le, suc-pred-eq_of_ne-zero, suc-pred-eq_of_pos}
use native.Mathlib.Decide.{dec_le, dec_lt}
use native.Mathlib.Omega.{arith}
use lib.Dec.{T, ltb, eqb, ltb→lt, eqb→eq}
use lib.Pow.{pow-add}
use Rattle.laws.proofs.Congruence.{mul_mod_l}
use Rattle.laws.proofs.Powers.{pow-mod, pow-mul, one-pow, powmod, powmod_is}
use Rattle.laws.proofs.Pigeonhole.{onto, Meets}
use Rattle.laws.specs.Tests.{both}
use Rattle.laws.proofs.Tests.{both_left, both_right}

-- ---- exponents at which a power of w is 1
abbrev One : ℕ → ℕ → ℕ → Type 0
One m w t = (w ^ t) % m ≡ 1

one-mod : (m w a : ℕ) → One m w a → 1 % m ≡ 1
one-mod m w a h = ap (λ (n : ℕ). n % m) (sym h) ∙ mod-mod (w ^ a) m ∙ h

one-add : (m w a b : ℕ) → One m w a → (w ^ (a + b)) % m ≡ (w ^ b) % m
one-add m w a b h =
    ap (λ (n : ℕ). n % m) (pow-add w a b) ∙ sym (mul_mod_l m (w ^ a) (w ^ b)) ∙ ap (λ (n : ℕ). (n * w ^ b) % m) h
    ∙ ap (λ (n : ℕ). n % m) (one-mul (w ^ b))

one-times : (m w a k : ℕ) → One m w a → One m w (a * k)
one-times m w a k h =
    ap (λ (n : ℕ). n % m) (pow-mul w a k) ∙ sym (pow-mod m (w ^ a) k) ∙ ap (λ (n : ℕ). (n ^ k) % m) h
    ∙ ap (λ (n : ℕ). n % m) (one-pow k) ∙ one-mod m w a h

-- with r and q also the remainder of q by r
one-rest : (m w r q : ℕ) → One m w r → One m w q → One m w (q % r)
one-rest m w r q hr hq =
    sym (one-add m w (q / r * r) (q % r) (ap (λ (n : ℕ). (w ^ n) % m) (mul_comm (q / r) r) ∙ one-times m w r (q / r) hr))
    ∙ ap (λ (n : ℕ). (w ^ n) % m) (div-add-mod' q r) ∙ hq

-- ---- primes, by trial division
abbrev NoDivisor : ℕ → Type 0
NoDivisor q = (r : ℕ) → 1 < r → r < q → q % r ≡ 0 → ⊥

-- none of 2 .. n + 1 divides q
unfoldable pub undivided : ℕ → ℕ → Bool
undivided q zero = true
undivided q (suc n) = both (ltb 0 (q % suc (suc n))) (undivided q n)

undivided_at : (q n : ℕ) → T (undivided q n) → (r : ℕ) → 1 < r → r ≤ suc n → q % r ≡ 0 → ⊥
unfolding undivided
undivided_at q zero h r l u z = omega arith
undivided_at q (suc n) h r l u z =
    go (undivided_at q n (both_right (ltb 0 (q % suc (suc n))) (undivided q n) h)) (eq-or-lt_of_le u)
  where
    go : ((r : ℕ) → 1 < r → r ≤ suc n → q % r ≡ 0 → ⊥) → (r ≡ suc (suc n)) ⊎ (r < suc (suc n)) → ⊥
    go ih (inl e) =
        let p : 0 < q % suc (suc n) = ltb→lt 0 (q % suc (suc n)) (both_left (ltb 0 (q % suc (suc n))) (undivided q n) h) in
        omega (arith, subst (λ (k : ℕ). q % k ≡ 0) e z)
    go ih (inr k) = ih r l (omega arith) z

-- no number divides q, where q is below the next square: of two factors one is small
prime_by : (q n : ℕ) → T (undivided q n) → q < (n + 2) * (n + 2) → NoDivisor q
prime_by q n h sq r l u z = go (dec_le r (suc n))
  where
    s : ℕ
    s = q / r

    e : s * r ≡ q
    e = sym (add-zero (s * r)) ∙ ap (λ (k : ℕ). s * r + k) (sym z) ∙ div-add-mod' q r

    not-one : (s r q : ℕ) → s * r ≡ q → r < q → 1 < s
    not-one zero r q e u = omega arith
    not-one (suc zero) r q e u = omega arith
    not-one (suc (suc s)) r q e u = omega arith

    small : (s r q n : ℕ) → s * r ≡ q → q < (n + 2) * (n + 2) → (r ≤ suc n → ⊥) → s ≤ suc n
    small s r q n e sq big = at (dec_le s (suc n))
      where
        at : Dec (s ≤ suc n) → s ≤ suc n
        at (yes p) = p
        at (no big') = absurd (omega (arith, mul-le-mul {n₁ = n + 2} {m₁ = n + 2} {n₂ = s} {m₂ = r} (omega arith) (omega arith)))

    go : Dec (r ≤ suc n) → ⊥
    go (yes low) = undivided_at q n h r l low z
    go (no big) =
        undivided_at q n h s (not-one s r q e u) (small s r q n e sq big) (ap (λ (k : ℕ). k % s) (sym e) ∙ mul-mod_right s r)

-- ---- where a power with a prime exponent q is 1 and w is not, q divides every such exponent
module _ (m w q : ℕ) (prime : NoDivisor q) (hq : One m w q) (ne : One m w 1 → ⊥) where
  none_below : (fuel r : ℕ) → r ≤ fuel → 0 < r → r < q → One m w r → ⊥
  none_below zero r l pos h one = omega arith
  none_below (suc fuel) zero l pos h one = omega arith
  none_below (suc fuel) (suc zero) l pos h one = ne one
  none_below (suc fuel) (suc (suc r)) l pos h one =
      go (none_below fuel) (eq-zero-or-pos (q % suc (suc r))) (mod-lt q (omega arith))
    where
      go : ((s : ℕ) → s ≤ fuel → 0 < s → s < q → One m w s → ⊥) → (q % suc (suc r) ≡ 0) ⊎ (0 < q % suc (suc r)) → q % suc (suc r) < suc (suc r) → ⊥
      go ih (inl z) small = prime (suc (suc r)) (omega arith) h z
      go ih (inr p) small = ih (q % suc (suc r)) (omega arith) p (omega arith) (one-rest m w (suc (suc r)) q one hq)

  divides : (t : ℕ) → 0 < q → One m w t → t % q ≡ 0
  divides t pos one = go (eq-zero-or-pos (t % q))
    where
      go : (t % q ≡ 0) ⊎ (0 < t % q) → t % q ≡ 0
      go (inl z) = z
      go (inr p) = absurd (none_below (t % q) (t % q) (le_refl (t % q)) p (mod-lt t pos) (one-rest m w q t hq one))

-- ---- the prime factors of N one by one: where A divides the exponent d, so does A q
abbrev Multiple : ℕ → ℕ → Type 0
Multiple A d = (t : ℕ) × (d ≡ A * t)

next_factor : (m g N A q M d : ℕ) → NoDivisor q → 0 < q → N ≡ A * M * q → One m g N → (One m g (A * M) → ⊥)
    → One m g d → Multiple A d → Multiple (A * q) d
next_factor m g N A q M d prime pos eN hN ne hd (t, e) =
    (t / q, e ∙ ap (λ (n : ℕ). A * n) (sym (div-add-mod' t q) ∙ ap (λ (n : ℕ). t / q * q + n) z) ∙ regroup A (t / q) q)
  where
    regroup : (A s q : ℕ) → A * (s * q + 0) ≡ A * q * s
    regroup A s q = omega arith

    swap : (A M t : ℕ) → A * M * t ≡ A * t * M
    swap A M t = omega arith

    w_is : (k : ℕ) → ((g ^ (A * M)) ^ k) % m ≡ (g ^ (A * M * k)) % m
    w_is k = ap (λ (n : ℕ). n % m) (sym (pow-mul g (A * M) k))

    z : t % q ≡ 0
    z = divides m (g ^ (A * M)) q prime
        (w_is q ∙ ap (λ (n : ℕ). (g ^ n) % m) (sym eN) ∙ hN)
        (λ h. ne (ap (λ (n : ℕ). (g ^ n) % m) (sym (mul-one (A * M))) ∙ sym (w_is 1) ∙ h))
        t pos
        (w_is t ∙ ap (λ (n : ℕ). (g ^ n) % m) (swap A M t ∙ ap (λ (n : ℕ). n * M) (sym e)) ∙ one-times m g d M hd)

-- ---- the computed test
module _ (m g N bits : ℕ) where
  -- the prime factor q of N, tried up to n + 1, beyond the factors A: g ^ (N / q) is not 1
  unfoldable pub factor_passes : ℕ → ℕ → ℕ → Bool
  unfolding undivided
  factor_passes A q n =
      let M = N / (A * q) in
      both (eqb N (A * M * q))
      (both (ltb 0 q)
      (both (undivided q n)
      (both (ltb q ((n + 2) * (n + 2)))
      (both (ltb (A * M) (2 ^ bits))
      (not (eqb (powmod m bits g (A * M)) 1))))))

  -- the factors from A on are all there are
  unfoldable pub factors_pass : ℕ → List (ℕ × ℕ) → Bool
  unfolding factor_passes
  factors_pass A [] = eqb A N
  factors_pass A (f ∷ fs) = both (factor_passes A f.0 f.1) (factors_pass (A * f.0) fs)

  -- g ^ N is 1, and no lower power is
  unfoldable pub generates : List (ℕ × ℕ) → Bool
  unfolding factors_pass
  generates factors =
      both (ltb N (2 ^ bits)) (both (eqb (powmod m bits g N) 1) (factors_pass 1 factors))

  unlike_one : (n : ℕ) → T (not (eqb n 1)) → n ≡ 1 → ⊥
  unlike_one n h e = subst (λ (k : ℕ). T (not (eqb k 1))) e h

  factor_is : (A q n d : ℕ) → One m g N → T (factor_passes A q n) → One m g d → Multiple A d → Multiple (A * q) d
  unfolding factor_passes
  factor_is A q n d hN h hd k =
      let M : ℕ = N / (A * q) in
      let h₁ = both_right (eqb N (A * M * q)) _ h in
      let h₂ = both_right (ltb 0 q) _ h₁ in
      let h₃ = both_right (undivided q n) _ h₂ in
      let h₄ = both_right (ltb q ((n + 2) * (n + 2))) _ h₃ in
      let h₅ = both_right (ltb (A * M) (2 ^ bits)) _ h₄ in
      let low : A * M < 2 ^ bits = ltb→lt (A * M) (2 ^ bits) (both_left (ltb (A * M) (2 ^ bits)) _ h₄) in
      next_factor m g N A q M d
      (prime_by q n (both_left (undivided q n) _ h₂) (ltb→lt q ((n + 2) * (n + 2)) (both_left (ltb q ((n + 2) * (n + 2))) _ h₃)))
      (ltb→lt 0 q (both_left (ltb 0 q) _ h₁))
      (eqb→eq N (A * M * q) (both_left (eqb N (A * M * q)) _ h))
      hN
      (λ one. unlike_one (powmod m bits g (A * M)) h₅ (powmod_is m bits g (A * M) low ∙ one))
      hd k

  factors_are : (fs : List (ℕ × ℕ)) (A d : ℕ) → One m g N → T (factors_pass A fs) → One m g d → Multiple A d → Multiple N d
  unfolding factors_pass
  factors_are [] A d hN h hd k = subst (λ (n : ℕ). Multiple n d) (eqb→eq A N h) k
  factors_are (f ∷ fs) A d hN h hd k =
      factors_are fs (A * f.0) d hN (both_right (factor_passes A f.0 f.1) (factors_pass (A * f.0) fs) h) hd
      (factor_is A f.0 f.1 d hN (both_left (factor_passes A f.0 f.1) (factors_pass (A * f.0) fs) h) hd k)

  at_least : (d : ℕ) → 0 < d → Multiple N d → N ≤ d
  at_least d l (zero, e) = omega arith
  at_least d l (suc t, e) = omega arith

-- ---- the powers of g are all the numbers from 1 to N
module _ (m g N : ℕ) (size : m ≡ suc N) (hN : One m g N) (least : (d : ℕ) → 0 < d → One m g d → N ≤ d) where
  m_pos : 0 < m
  m_pos = omega arith

  -- g ^ k and g ^ (N - k) are inverse
  inverse_to : (k : ℕ) → k ≤ N → (g ^ k * g ^ (N - k)) % m ≡ 1
  inverse_to k h = ap (λ (n : ℕ). n % m) (sym (pow-add g k (N - k)) ∙ ap (λ (n : ℕ). g ^ n) (add-sub_of_le h)) ∙ hN

  nonzero : (k : ℕ) → k ≤ N → (g ^ k) % m ≡ 0 → ⊥
  nonzero k h z =
      let e : ◌≡◌ {A = ℕ} 0 1 =
      sym (zero-mod m) ∙ ap (λ (n : ℕ). n % m) (sym (zero-mul (g ^ (N - k)))) ∙ ap (λ (n : ℕ). (n * g ^ (N - k)) % m) (sym z)
      ∙ mul_mod_l m (g ^ k) (g ^ (N - k)) ∙ inverse_to k h in
      omega arith

  later : (i k : ℕ) → i ≤ N → (g ^ i) % m ≡ (g ^ (i + k)) % m → One m g k
  later i k h e =
      sym (one-add m g N k hN) ∙ ap (λ (n : ℕ). (g ^ n) % m) (regroup i k N h)
      ∙ ap (λ (n : ℕ). n % m) (pow-add g (i + k) (N - i)) ∙ sym (mul_mod_l m (g ^ (i + k)) (g ^ (N - i)))
      ∙ ap (λ (n : ℕ). (n * g ^ (N - i)) % m) (sym e) ∙ mul_mod_l m (g ^ i) (g ^ (N - i)) ∙ inverse_to i h
    where
      regroup : (i k N : ℕ) → i ≤ N → N + k ≡ i + k + (N - i)
      regroup i k N h = omega arith

  not_later : (i j : ℕ) → i < j → j < N → (g ^ i) % m ≡ (g ^ j) % m → ⊥
  not_later i j l h e =
      let one : One m g (j - i) = later i (j - i) (omega arith) (e ∙ ap (λ (n : ℕ). (g ^ n) % m) (sym (add-sub_of_le (omega arith)))) in
      let big : N ≤ j - i = least (j - i) (omega arith) one in
      omega arith

  -- g ^ k less one, so that the numbers start at 0
  power : ℕ → ℕ
  power k = pred ((g ^ k) % m)

  power_is : (k : ℕ) → k ≤ N → suc (power k) ≡ (g ^ k) % m
  unfolding power
  power_is k h = suc-pred-eq_of_ne-zero (nonzero k h)

  inside : (k : ℕ) → k < N → power k < N
  inside k h = omega (arith, power_is k (omega arith), mod-lt (g ^ k) m_pos)

  apart : (i j : ℕ) → i < N → j < N → power i ≡ power j → i ≡ j
  apart i j hi hj e = go (dec_lt i j) (dec_lt j i)
    where
      same : (g ^ i) % m ≡ (g ^ j) % m
      same = sym (power_is i (omega arith)) ∙ ap suc e ∙ power_is j (omega arith)

      go : Dec (i < j) → Dec (j < i) → i ≡ j
      go (yes l) _ = absurd (not_later i j l hj same)
      go (no _) (yes l) = absurd (not_later j i l hi (sym same))
      go (no a) (no b) = omega arith

  a_power : (x : ℕ) → 0 < x → x < m → (k : ℕ) × ((g ^ k) % m ≡ x)
  a_power x l h =
      let w : Meets N power (pred x) = onto N power inside apart (pred x) (omega arith) in
      (w.0, sym (power_is w.0 (omega arith)) ∙ ap suc w.2 ∙ suc-pred-eq_of_pos l)

  fermat_from : (x : ℕ) → 0 < x → x < m → (x ^ N) % m ≡ 1
  fermat_from x l h =
      let w : (k : ℕ) × ((g ^ k) % m ≡ x) = a_power x l h in
      ap (λ (n : ℕ). (n ^ N) % m) (sym w.1) ∙ pow-mod m (g ^ w.0) N ∙ ap (λ (n : ℕ). n % m) (sym (pow-mul g w.0 N))
      ∙ ap (λ (n : ℕ). (g ^ n) % m) (mul_comm w.0 N) ∙ one-times m g N w.0 hN

-- ---- Fermat's theorem for m, by the test
pub fermat_by : (m g N bits : ℕ) (factors : List (ℕ × ℕ)) → m ≡ suc N → T (generates m g N bits factors) → (x : ℕ) → 0 < x → x < m → (x ^ N) % m ≡ 1
unfolding generates
fermat_by m g N bits factors size t =
    let t₁ = both_right (ltb N (2 ^ bits)) _ t in
    let low : N < 2 ^ bits = ltb→lt N (2 ^ bits) (both_left (ltb N (2 ^ bits)) _ t) in
    let one : (g ^ N) % m ≡ 1 = sym (powmod_is m bits g N low) ∙ eqb→eq (powmod m bits g N) 1 (both_left (eqb (powmod m bits g N) 1) _ t₁) in
    let rest : T (factors_pass m g N bits 1 factors) = both_right (eqb (powmod m bits g N) 1) _ t₁ in
    fermat_from m g N size one
    (λ d l h. at_least m g N bits d l (factors_are m g N bits factors 1 d one rest h (d, sym (one-mul d))))
