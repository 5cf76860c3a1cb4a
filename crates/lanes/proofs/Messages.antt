-- How coefficients of an embedding and bytes of an extraction come about; both are canonical.
use mathlib.Core.Path.{◌≡◌, sym, ap, ◌∙◌, subst}
use mathlib.Core.Bool.{Bool, true, false}
use mathlib.Core.List.{List}
use mathlib.Core.Logic.{⊎_elim}
use Prim.Native.Nat.{ℕ, ◌+◌, ◌*◌, ◌/◌, ◌%◌, ◌^◌, ◌≤◌, ◌<◌}
use native.Mathlib.Nat.{div-div-eq-div-mul}
use native.Mathlib.Omega.{arith}
use lib.Dec.{leb, lit<, lit≤}
use lib.ListN.{get_or}
use borrow.Author.Tests.{le-leb, lt-leb}
use Rattle.laws.specs.Lists.{Below}
use Rattle.laws.specs.Bits.{bit}
use Rattle.laws.proofs.Bits.{bit-lt}
use Rattle.laws.proofs.Orders.{le_or_lt}
use Rattle.laws.specs.Tests.{both}
use Rattle.laws.proofs.Lists.{get_or-tab}
use Rattle.laws.proofs.Bounds.{tab_below}
use Rattle.field.specs.Field.{P, Coefficients}
use Rattle.lanes.specs.FourLanes.{placed}
use Rattle.lanes.specs.Messages.{lifted, embedded, embed, chunk, chunk_bit, read, extracted, extract}

-- ---- embedding
pub lifted_below : (n h : ℕ) → lifted n h < P
unfolding lifted
lifted_below n h = most _ _ _ _ (bit-lt n h) (bit-lt n (h + 1)) (bit-lt n (h + 2)) (bit-lt n (h + 3))
  where
    most : (a b c d : ℕ) → a < 2 → b < 2 → c < 2 → d < 2 → placed (2 ^ 15 * a) (2 ^ 15 * b) (2 ^ 15 * c) (2 ^ 15 * d) < P
    most a b c d ha hb hc hd = omega arith

pub embed-canonical : (m : List ℕ) → Coefficients 64 (embed m)
unfolding embed
embed-canonical m = tab_below P 64 (λ k. embedded m k) (lit< tt) (λ k h. lifted_below (get_or m (k / 2) 0) (4 * (k % 2)))

-- bits 4 to 7 are the lowest four of the byte's upper half
pub lifted_upper : (n : ℕ) → lifted (n / 16) 0 ≡ lifted n 4
unfolding lifted bit
lifted_upper n = λ i. placed (2 ^ 15 * (half 1 i % 2)) (2 ^ 15 * (half 2 i % 2)) (2 ^ 15 * (half 4 i % 2)) (2 ^ 15 * (half 8 i % 2))
  where
    half : (d : ℕ) → n / 16 / d ≡ n / (16 * d)
    half d = div-div-eq-div-mul n 16 d

pub embedded_even : (m : List ℕ) (i : ℕ) → embedded m (2 * i) ≡ lifted (get_or m i 0) 0
embedded_even m i = λ j. lifted (get_or m (whole j) 0) (4 * rest j)
  where
    whole : 2 * i / 2 ≡ i
    whole = omega arith

    rest : 2 * i % 2 ≡ 0
    rest = omega arith

pub embedded_odd : (m : List ℕ) (i : ℕ) → embedded m (2 * i + 1) ≡ lifted (get_or m i 0) 4
embedded_odd m i = λ j. lifted (get_or m (whole j) 0) (4 * rest j)
  where
    whole : (2 * i + 1) / 2 ≡ i
    whole = omega arith

    rest : (2 * i + 1) % 2 ≡ 1
    rest = omega arith

pub embed_even : (m : List ℕ) (i : ℕ) → i < 32 → get_or (embed m) (2 * i) 0 ≡ lifted (get_or m i 0) 0
unfolding embed
embed_even m i h = get_or-tab 64 (λ k. embedded m k) 0 (2 * i) (omega arith) ∙ embedded_even m i

pub embed_odd : (m : List ℕ) (i : ℕ) → i < 32 → get_or (embed m) (2 * i + 1) 0 ≡ lifted (get_or m i 0) 4
unfolding embed
embed_odd m i h = get_or-tab 64 (λ k. embedded m k) 0 (2 * i + 1) (omega arith) ∙ embedded_odd m i

-- ---- extraction
abbrev chosen : Bool → Bool → ℕ
chosen s t = elim (both s t) [ true ↦ 1 | false ↦ 0 ]

pub chunk_bit_low : (c : ℕ) → c < 16384 → chunk_bit c ≡ 0
unfolding chunk_bit
chunk_bit_low c h = ap (λ (s : Bool). chosen s (leb c 49152)) (lt-leb 16384 c h)

pub chunk_bit_middle : (c : ℕ) → 16384 ≤ c → c ≤ 49152 → chunk_bit c ≡ 1
unfolding chunk_bit
chunk_bit_middle c g h = λ i. chosen (le-leb 16384 c g i) (le-leb c 49152 h i)

pub chunk_bit_high : (c : ℕ) → 49152 < c → chunk_bit c ≡ 0
unfolding chunk_bit
chunk_bit_high c h = let g : 16384 ≤ c = omega arith in λ i. chosen (le-leb 16384 c g i) (lt-leb c 49152 h i)

pub chunk_bit_lt : (c : ℕ) → chunk_bit c ≤ 1
chunk_bit_lt c =
    ⊎_elim (λ g. ⊎_elim (λ h. within 1 (chunk_bit_middle c g h) (lit≤ tt)) (λ h. within 0 (chunk_bit_high c h) (lit≤ tt)) (le_or_lt c 49152))
    (λ g. within 0 (chunk_bit_low c g) (lit≤ tt)) (le_or_lt 16384 c)
  where
    within : (b : ℕ) → chunk_bit c ≡ b → b ≤ 1 → chunk_bit c ≤ 1
    within b e h = subst (λ (n : ℕ). n ≤ 1) (sym e) h

pub read_small : (v : ℕ) → read v ≤ 15
unfolding read
read_small v = most _ _ _ _ (chunk_bit_lt (chunk v 0)) (chunk_bit_lt (chunk v 1)) (chunk_bit_lt (chunk v 2)) (chunk_bit_lt (chunk v 3))
  where
    most : (a b c d : ℕ) → a ≤ 1 → b ≤ 1 → c ≤ 1 → d ≤ 1 → a + 2 * b + 4 * c + 8 * d ≤ 15
    most a b c d ha hb hc hd = omega arith

-- 32 bytes
pub extract-bytes : (cs : List ℕ) → Below 256 32 (extract cs)
unfolding extract
extract-bytes cs =
    tab_below 256 32 (λ i. extracted cs i) (lit< tt)
    (λ i h. most _ _ (read_small (get_or cs (2 * i) 0)) (read_small (get_or cs (2 * i + 1) 0)))
  where
    most : (a b : ℕ) → a ≤ 15 → b ≤ 15 → a + 16 * b < 256
    most a b ha hb = omega arith
