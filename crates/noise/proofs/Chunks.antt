-- One coefficient of an embedding with noise of lanes of size up to the limit: every chunk gives its bit. A lane e is x - y, for naturals x and y.
-- The borrow that a lane takes from the next stays a variable, and so does k, which is 1 where the sum came below 0 and p was added.
use mathlib.Core.Path.{◌≡◌, sym, ap, ◌∙◌}
use mathlib.Core.Logic.{⊎_elim}
use Prim.Native.Nat.{ℕ, ◌+◌, ◌*◌, ◌-◌, ◌/◌, ◌%◌, ◌^◌, ◌≤◌, ◌<◌}
use native.Mathlib.Nat.{div-add-mod', div-div-eq-div-mul, div-one, mod-lt, mul-le-mul_right, mod-eq_of_lt, div-lt_iff_lt-mul}
use native.Mathlib.Omega.{arith}
use lib.Dec.{lit<}
use Rattle.laws.proofs.Orders.{le_or_lt}
use Rattle.field.specs.Field.{P}
use Rattle.lanes.specs.FourLanes.{placed}
use Rattle.lanes.specs.Messages.{chunk_bit, read, chunk}
use Rattle.noise.specs.Noise.{limit}
use Rattle.lanes.proofs.Messages.{chunk_bit_low, chunk_bit_middle, chunk_bit_high}

-- ---- one lane. From below came t - 2, and on goes `on` - 2; c is the chunk, C what is above it, X what the lanes above are worth
record Step (b c C X : ℕ) : Type 0 where
  bit_is : chunk_bit c ≡ b
  on : ℕ
  on_low : 1 ≤ on
  on_high : on ≤ 2
  next : C + 2 ≡ X + on

-- a bit, and the noise of its lane
pub record Noisy (b x y : ℕ) : Type 0 where
  pub bit-small : b ≤ 1
  pub up : x ≤ y + limit
  pub down : y ≤ x + limit

lane : (b c x y t C X : ℕ) → Noisy b x y → c < 65536 → t ≤ 3 → c + y + 65536 * C + 2 ≡ 32768 * b + x + t + 65536 * X → Step b c C X
lane b c x y t C X l hc ht e = ⊎_elim (λ h. kept h) (λ h. borrowed h) (le_or_lt X C)
  where
    kept : X ≤ C → Step b c C X
    kept h =
        let q : C ≡ X = omega arith in
        record {
          bit_is = ⊎_elim (λ z. zero_bit q z) (λ z. one_bit q z) (le_or_lt b 0);
          on = 2;
          on_low = omega arith;
          on_high = omega arith;
          next = omega arith;
        }
      where
        zero_bit : C ≡ X → b ≤ 0 → chunk_bit c ≡ b
        zero_bit q z = chunk_bit_low c (omega arith) ∙ (omega arith)

        one_bit : C ≡ X → 0 < b → chunk_bit c ≡ b
        one_bit q z = chunk_bit_middle c (omega arith) (omega arith) ∙ (omega arith)

    borrowed : C < X → Step b c C X
    borrowed h =
        let q : C + 1 ≡ X = omega arith in
        record { bit_is = chunk_bit_high c (omega arith) ∙ (omega arith); on = 1; on_low = omega arith; on_high = omega arith; next = omega arith }

-- ---- four lanes, the lowest first: the equation that each takes, from the one before. Each is a lemma of its own, since omega is fast on few
-- variables
first : (v v1 k c0 z0 y0 Y W : ℕ) → v ≡ v1 * 65536 + c0 → v + (y0 + 65536 * Y) ≡ z0 + 65536 * W + k * P
    → c0 + y0 + 65536 * (v1 + Y) + 2 ≡ z0 + (2 + k) + 65536 * (W + k * (2 ^ 48 - 2 ^ 16))
first v v1 k c0 z0 y0 Y W q e = omega arith

second : (v1 v2 t k c1 z1 y1 Y W : ℕ) → v1 ≡ v2 * 65536 + c1 → v1 + (y1 + 65536 * Y) + 2 ≡ z1 + 65536 * W + k * (2 ^ 48 - 2 ^ 16) + t
    → c1 + y1 + 65536 * (v2 + Y) + 2 ≡ z1 + t + 65536 * (W + k * (2 ^ 32 - 1))
second v1 v2 t k c1 z1 y1 Y W q e = omega arith

third : (v2 c3 t k c2 z2 y2 Y W : ℕ) → 1 ≤ t → k ≤ 1 → v2 ≡ c3 * 65536 + c2 → v2 + (y2 + 65536 * Y) + 2 ≡ z2 + 65536 * W + k * (2 ^ 32 - 1) + t
    → c2 + y2 + 65536 * (c3 + Y) + 2 ≡ z2 + (t - k) + 65536 * (W + k * 2 ^ 16)
third v2 c3 t k c2 z2 y2 Y W h hk q e = omega arith

fourth : (t k c3 z3 y3 : ℕ) → c3 + y3 + 2 ≡ z3 + k * 2 ^ 16 + t → c3 + y3 + 65536 * 0 + 2 ≡ z3 + t + 65536 * k
fourth t k c3 z3 y3 e = omega arith

less : (t k : ℕ) → t ≤ 2 → t - k ≤ 3
less t k h = omega arith

still : (t : ℕ) → t ≤ 2 → t ≤ 3
still t h = omega arith

more : (k : ℕ) → k ≤ 1 → 2 + k ≤ 3
more k h = omega arith

nested : (y0 y1 y2 y3 : ℕ) → placed y0 y1 y2 y3 ≡ y0 + 65536 * (y1 + 65536 * (y2 + 65536 * y3))
nested y0 y1 y2 y3 = omega arith

nested_bits : (b0 b1 b2 b3 x0 x1 x2 x3 : ℕ) → placed (32768 * b0) (32768 * b1) (32768 * b2) (32768 * b3) + placed x0 x1 x2 x3
    ≡ 32768 * b0 + x0 + 65536 * (32768 * b1 + x1 + 65536 * (32768 * b2 + x2 + 65536 * (32768 * b3 + x3)))
nested_bits b0 b1 b2 b3 x0 x1 x2 x3 = omega arith

-- two numbers with one remainder, not far apart, differ by m or not at all
pub wraps : (m M N : ℕ) → M % m ≡ N % m → M < N + 2 * m → N < M + m → (k : ℕ) × (k ≤ 1) × (M ≡ N + k * m)
wraps m M N e h g = ⊎_elim below above (le_or_lt (M / m) (N / m))
  where
    lo : (q q' r : ℕ) → q' * m + r ≡ N → q * m + r ≡ M → q < q' → ⊥
    lo q q' r f f' l = omega (arith, mul-le-mul_right m l)

    eq : N / m * m + M % m ≡ N
    eq = ap (λ (r : ℕ). N / m * m + r) e ∙ div-add-mod' N m

    same-quotient : (q q' r : ℕ) → q' * m + r ≡ N → q * m + r ≡ M → q ≤ q' → M ≡ N + 0 * m
    same-quotient q q' r f f' l =
        ⊎_elim (λ w. omega (arith, mul-le-mul_right m l, mul-le-mul_right m w)) (λ w. absurd (lo q q' r f f' w)) (le_or_lt q' q)

    next_quotient : (q q' r : ℕ) → q' * m + r ≡ N → q * m + r ≡ M → q' < q → M ≡ N + 1 * m
    next_quotient q q' r f f' l =
        ⊎_elim (λ w. omega (arith, mul-le-mul_right m l, mul-le-mul_right m w)) (λ w. absurd (hi w)) (le_or_lt q (q' + 1))
      where
        hi : q' + 1 < q → ⊥
        hi w = omega (arith, mul-le-mul_right m w)

    below : M / m ≤ N / m → (k : ℕ) × (k ≤ 1) × (M ≡ N + k * m)
    below l = (0, omega arith, same-quotient (M / m) (N / m) (M % m) eq (div-add-mod' M m) l)

    above : N / m < M / m → (k : ℕ) × (k ≤ 1) × (M ≡ N + k * m)
    above l = (1, omega arith, next_quotient (M / m) (N / m) (M % m) eq (div-add-mod' M m) l)

-- a canonical value is its chunks
lowest : (v : ℕ) → v ≡ v / 65536 * 65536 + chunk v 0
lowest v = sym (div-add-mod' v 65536) ∙ ap (λ (n : ℕ). v / 65536 * 65536 + n % 65536) (sym (div-one v))

middle : (v : ℕ) → v / 65536 ≡ v / 2 ^ 32 * 65536 + chunk v 1
middle v = sym (div-add-mod' (v / 65536) 65536) ∙ ap (λ (q : ℕ). q * 65536 + chunk v 1) (div-div-eq-div-mul v 65536 65536)

upper : (v : ℕ) → v < P → v / 2 ^ 32 ≡ chunk v 3 * 65536 + chunk v 2
upper v h =
    sym (div-add-mod' (v / 2 ^ 32) 65536)
    ∙ ap (λ (q : ℕ). q * 65536 + chunk v 2)
    (div-div-eq-div-mul v (2 ^ 32) 65536 ∙ sym (mod-eq_of_lt ((div-lt_iff_lt-mul (lit< tt)).1 (fits v h))))
  where
    fits : (v : ℕ) → v < P → v < 65536 * 2 ^ 48
    fits v h = omega arith

module _ (v b0 b1 b2 b3 x0 x1 x2 x3 y0 y1 y2 y3 : ℕ)
    (l0 : Noisy b0 x0 y0) (l1 : Noisy b1 x1 y1) (l2 : Noisy b2 x2 y2) (l3 : Noisy b3 x3 y3) where
  -- the value and its lanes lie so near that p is added once at most
  near_low : placed (2 ^ 15 * b0) (2 ^ 15 * b1) (2 ^ 15 * b2) (2 ^ 15 * b3) + placed x0 x1 x2 x3 < v + placed y0 y1 y2 y3 + P
  near_low = omega arith

  near_high : v < P → v + placed y0 y1 y2 y3 < placed (2 ^ 15 * b0) (2 ^ 15 * b1) (2 ^ 15 * b2) (2 ^ 15 * b3) + placed x0 x1 x2 x3 + 2 * P
  near_high h = omega arith

  -- the bits are read
  pub reads : v < P → (v + placed y0 y1 y2 y3) % P ≡ (placed (2 ^ 15 * b0) (2 ^ 15 * b1) (2 ^ 15 * b2) (2 ^ 15 * b3) + placed x0 x1 x2 x3) % P
      → read v ≡ b0 + 2 * b1 + 4 * b2 + 8 * b3
  unfolding read
  reads h e =
      let w = wraps P _ _ e (near_high h) near_low in
      let k = w.0 in
      let e' = sym (ap (λ (n : ℕ). v + n) (nested y0 y1 y2 y3)) ∙ w.2 ∙ ap (λ (n : ℕ). n + k * P) (nested_bits b0 b1 b2 b3 x0 x1 x2 x3) in
      let s0 = lane b0 _ x0 y0 (2 + k) _ _ l0 (mod-lt _ (lit< tt)) (more k w.1) (first v _ k _ (32768 * b0 + x0) y0 _ _ (lowest v) e') in
      let s1 =
      lane b1 _ x1 y1 s0.on _ _ l1 (mod-lt _ (lit< tt)) (still s0.on s0.on_high)
      (second _ _ s0.on k _ (32768 * b1 + x1) y1 _ _ (middle v) s0.next) in
      let s2 =
      lane b2 _ x2 y2 (s1.on - k) _ _ l2 (mod-lt _ (lit< tt)) (less s1.on k s1.on_high)
      (third _ _ s1.on k _ (32768 * b2 + x2) y2 _ _ s1.on_low w.1 (upper v h) s1.next) in
      let s3 =
      lane b3 _ x3 y3 s2.on 0 k l3 (mod-lt _ (lit< tt)) (still s2.on s2.on_high)
      (fourth s2.on k _ (32768 * b3 + x3) y3 s2.next) in
      λ i. s0.bit_is i + 2 * s1.bit_is i + 4 * s2.bit_is i + 8 * s3.bit_is i
