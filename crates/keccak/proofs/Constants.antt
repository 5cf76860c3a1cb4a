-- The round constants as numbers: FIPS 202's shift register is run once here, and all else goes by what came out of it.
use mathlib.Core.Path.{◌≡◌, refl, sym, ap, ap₂, ◌∙◌}
use mathlib.Core.Bool.{Bool}
use mathlib.Core.List.{List, [], ◌∷◌}
use Prim.Native.Nat.{ℕ, zero, suc, ◌+◌, ◌-◌, ◌*◌, ◌/◌, ◌%◌, ◌^◌, ◌<◌, ◌≤◌}
use native.Mathlib.Nat.{mod-eq_of_lt}
use native.Mathlib.Omega.{arith}
use lib.Dec.{T, eqb, eqb→eq, ltb, ltb→lt}
use lib.ListN.{get_or}
use Rattle.std.specs.Simd.{first_chunks}
use Rattle.laws.specs.Bits.{bit}
use Rattle.laws.specs.Choices.{pick}
use Rattle.laws.proofs.Lists.{is_tab}
use Rattle.laws.specs.Tests.{all}
use Rattle.laws.proofs.Tests.{all-at, equal_at}
use Rattle.keccak.specs.Keccak.{shift, shifts, rc, marked, RC}
use Rattle.keccak.specs.Lanes.{marks, constant, constants}

-- ---- the register
abbrev first : List ℕ
first = 1 ∷ 0 ∷ 0 ∷ 0 ∷ 0 ∷ 0 ∷ 0 ∷ 0 ∷ []

-- the next n bits that come out of it
abbrev outputs : ℕ → List ℕ → List ℕ
outputs zero r = []
outputs (suc n) r = get_or r 0 0 ∷ outputs n (shift r)

output_at : (n t : ℕ) (r : List ℕ) → t < n → get_or (outputs n r) t 0 ≡ get_or (shifts t r) 0 0
output_at zero t r h = absurd (omega arith)
output_at (suc n) zero r h = refl
output_at (suc n) (suc t) r h = output_at n t (shift r) (omega arith)

-- those that the 24 rounds use
unfoldable register : List ℕ
register =
    1 ∷ 0 ∷ 0 ∷ 0 ∷ 0 ∷ 0 ∷ 0 ∷ 0 ∷ 1 ∷ 0 ∷ 1 ∷ 1 ∷ 0 ∷ 0 ∷ 0 ∷ 1 ∷ 1 ∷ 1 ∷ 1 ∷ 0 ∷ 1 ∷ 0 ∷ 0 ∷ 0 ∷ 0 ∷ 1 ∷ 1 ∷ 1 ∷
    1 ∷ 1 ∷ 1 ∷ 1 ∷ 1 ∷ 0 ∷ 0 ∷ 1 ∷ 0 ∷ 0 ∷ 0 ∷ 0 ∷ 1 ∷ 0 ∷ 1 ∷ 0 ∷ 0 ∷ 1 ∷ 1 ∷ 1 ∷ 1 ∷ 1 ∷ 0 ∷ 1 ∷ 0 ∷ 1 ∷ 0 ∷ 1 ∷
    0 ∷ 1 ∷ 1 ∷ 1 ∷ 0 ∷ 0 ∷ 0 ∷ 0 ∷ 0 ∷ 1 ∷ 1 ∷ 0 ∷ 0 ∷ 0 ∷ 1 ∷ 0 ∷ 1 ∷ 0 ∷ 1 ∷ 1 ∷ 0 ∷ 0 ∷ 1 ∷ 1 ∷ 0 ∷ 0 ∷ 1 ∷ 0 ∷
    1 ∷ 1 ∷ 1 ∷ 1 ∷ 1 ∷ 1 ∷ 0 ∷ 1 ∷ 1 ∷ 1 ∷ 1 ∷ 0 ∷ 0 ∷ 1 ∷ 1 ∷ 0 ∷ 1 ∷ 1 ∷ 1 ∷ 0 ∷ 1 ∷ 1 ∷ 1 ∷ 0 ∷ 0 ∷ 1 ∷ 0 ∷ 1 ∷
    0 ∷ 1 ∷ 0 ∷ 0 ∷ 1 ∷ 0 ∷ 1 ∷ 0 ∷ 0 ∷ 0 ∷ 1 ∷ 0 ∷ 0 ∷ 1 ∷ 0 ∷ 1 ∷ 1 ∷ 0 ∷ 1 ∷ 0 ∷ 0 ∷ 0 ∷ 1 ∷ 1 ∷ 0 ∷ 0 ∷ 1 ∷ 1 ∷
    1 ∷ 0 ∷ 0 ∷ 1 ∷ 1 ∷ 1 ∷ 1 ∷ 0 ∷ 0 ∷ 0 ∷ 1 ∷ 1 ∷ 0 ∷ 1 ∷ 1 ∷ 0 ∷ 0 ∷ 0 ∷ 0 ∷ 1 ∷ 0 ∷ 0 ∷ 0 ∷ 1 ∷ 0 ∷ 1 ∷ 1 ∷ 1 ∷ []

outputs_register : outputs 168 first ≡ register
unfolding register
outputs_register = refl

rc_register : (t : ℕ) → t < 168 → rc t ≡ get_or register t 0
unfolding rc
rc_register t h =
    let small : t < 255 = omega arith in
    ap (λ (n : ℕ). get_or (shifts n first) 0 0) (mod-eq_of_lt small) ∙ sym (output_at 168 t first h)
    ∙ ap (λ (l : List ℕ). get_or l t 0) outputs_register

-- ---- the constants
unfoldable pub numbers : List ℕ
numbers =
    1 ∷ 32898 ∷ 9223372036854808714 ∷ 9223372039002292224 ∷ 32907 ∷ 2147483649 ∷ 9223372039002292353 ∷ 9223372036854808585 ∷ 138 ∷ 136 ∷
    2147516425 ∷ 2147483658 ∷ 2147516555 ∷ 9223372036854775947 ∷ 9223372036854808713 ∷ 9223372036854808579 ∷ 9223372036854808578 ∷
    9223372036854775936 ∷ 32778 ∷ 9223372039002259466 ∷ 9223372039002292353 ∷ 9223372036854808704 ∷ 2147483649 ∷ 9223372039002292232 ∷ []

-- from the register's bits
abbrev sum : ℕ → ℕ → ℕ
sum zero i = 0
sum (suc j) i = sum j i + get_or register (j + 7 * i) 0 * 2 ^ (2 ^ j - 1)

marks-sum : (j i : ℕ) → j ≤ 7 → i < 24 → marks j i ≡ sum j i
marks-sum zero i hj h = refl
marks-sum (suc j) i hj h =
    ap₂ (λ (m n : ℕ). m + n * 2 ^ (2 ^ j - 1)) (marks-sum j i (omega arith) h) (rc_register (j + 7 * i) (omega arith))

sum_number : (i : ℕ) → i < 24 → sum 7 i ≡ get_or numbers i 0
unfolding register numbers
sum_number = equal_at (sum 7) (λ i. get_or numbers i 0) 24 tt

pub constant_number : (i : ℕ) → i < 24 → constant i ≡ get_or numbers i 0
unfolding constant
constant_number i h = marks-sum 7 i (omega arith) h ∙ sum_number i h

pub constants-numbers : constants ≡ numbers
unfolding constants numbers
constants-numbers = sym (is_tab 24 constant 0 numbers refl (λ i h. sym (constant_number i h)))

-- in fours
unfoldable pub fours : List (List ℕ)
fours = first_chunks 4 6 numbers

abbrev four_right : ℕ → Bool
four_right n = eqb (get_or (get_or fours (n / 4) []) (n % 4) 0) (get_or numbers n 0)

fours_right : (n : ℕ) → n < 24 → T (four_right n)
unfolding fours numbers
fours_right = all-at four_right 24 tt

pub four_constant : (i j : ℕ) → i < 6 → j < 4 → get_or (get_or fours i []) j 0 ≡ get_or constants (4 * i + j) 0
four_constant i j hi hj =
    let n = 4 * i + j in
    let row : n / 4 ≡ i = omega arith in
    let place : n % 4 ≡ j = omega arith in
    sym (ap₂ (λ (k m : ℕ). get_or (get_or fours k []) m 0) row place)
    ∙ eqb→eq (get_or (get_or fours (n / 4) []) (n % 4) 0) (get_or numbers n 0) (fours_right n (omega arith))
    ∙ ap (λ (l : List ℕ). get_or l n 0) (sym constants-numbers)

numbers_fit : (i : ℕ) → i < 24 → T (ltb (get_or numbers i 0) (2 ^ 64))
unfolding numbers
numbers_fit = all-at (λ i. ltb (get_or numbers i 0) (2 ^ 64)) 24 tt

pub constant-fits : (i : ℕ) → i < 24 → constant i < 2 ^ 64
constant-fits i h = rw (constant_number i h) (ltb→lt (get_or numbers i 0) (2 ^ 64) (numbers_fit i h))

-- ---- they have the bits of algorithm 6: one test over the 24
abbrev mark : ℕ → ℕ → ℕ → ℕ
mark zero i z = 0
mark (suc j) i z = pick (eqb z (2 ^ j - 1)) (get_or register (j + 7 * i) 0) (mark j i z)

marked_mark : (j i z : ℕ) → j ≤ 7 → i < 24 → marked j i z ≡ mark j i z
marked_mark zero i z hj h = refl
marked_mark (suc j) i z hj h =
    ap₂ (pick (eqb z (2 ^ j - 1))) (rc_register (j + 7 * i) (omega arith)) (marked_mark j i z (omega arith) h)

abbrev bit-right : ℕ → ℕ → Bool
bit-right i z = eqb (bit (get_or numbers i 0) z) (mark 7 i z)

bits-right : (i : ℕ) → i < 24 → T (all (bit-right i) 64)
unfolding register numbers bit
bits-right = all-at (λ i. all (bit-right i) 64) 24 tt

pub constant-bit : (i z : ℕ) → i < 24 → z < 64 → bit (constant i) z ≡ RC i z
unfolding RC
constant-bit i z h hz =
    ap (λ (n : ℕ). bit n z) (constant_number i h)
    ∙ eqb→eq (bit (get_or numbers i 0) z) (mark 7 i z) (all-at (bit-right i) 64 (bits-right i h) z hz) ∙ sym (marked_mark 7 i z (omega arith) h)
