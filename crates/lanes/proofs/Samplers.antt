-- What the samplers draw: canonical coefficients, counts of at most 8, and the steps by which nine bytes are read.
use mathlib.Core.Path.{◌≡◌, refl, sym, ap, ◌∙◌}
use mathlib.Core.List.{List, [], ◌∷◌}
use Prim.Native.Nat.{ℕ, zero, suc, ◌+◌, ◌*◌, ◌-◌, ◌%◌, ◌^◌, ◌≤◌, ◌<◌}
use native.Mathlib.Nat.{mod-lt, mod-eq_of_lt, add-zero, zero-add}
use native.Mathlib.Omega.{arith}
use lib.Dec.{lit<, lit≤}
use lib.ListN.{get_or, take, drop}
use lib.Seq.{get_or-take, get_or-drop}
use Rattle.laws.specs.Lists.{part}
use Rattle.laws.proofs.Bits.{bit-lt}
use Rattle.laws.proofs.Bounds.{tab_below}
use Rattle.laws.proofs.ModularSolver.{mod_ring, at, lit, ◌⊞◌, ◌⊠◌}
use Rattle.field.specs.Field.{P, Coefficients}
use Rattle.lanes.specs.FourLanes.{placed}
use Rattle.lanes.specs.Samplers.{big_endian, uniform, uniforms, ones, counts, short, shorts}

pub uniform_below : (l : List ℕ) (s : ℕ) → uniform l s < P
unfolding uniform
uniform_below l s = mod-lt (big_endian l s 9) (lit< tt)

pub uniforms-canonical : (n : ℕ) (l : List ℕ) → Coefficients n (uniforms n l)
unfolding uniforms
uniforms-canonical n l = tab_below P n (λ k. uniform l (9 * k)) (lit< tt) (λ k h. uniform_below l (9 * k))

pub short_below : (count : ℕ → ℕ) (l : List ℕ) (s : ℕ) → short count l s < P
unfolding short
short_below count l s = mod-lt (counts count l s + (P - counts count l (s + 4) % P)) (lit< tt)

pub shorts-canonical : (count : ℕ → ℕ) (n : ℕ) (l : List ℕ) → Coefficients n (shorts count n l)
unfolding shorts
shorts-canonical count n l = tab_below P n (λ k. short count l (8 * k)) (lit< tt) (λ k h. short_below count l (8 * k))

-- ---- bits counted
pub ones_small : (n : ℕ) → ones n ≤ 8
unfolding ones
ones_small n =
    omega (arith, bit-lt n 0, bit-lt n 1, bit-lt n 2, bit-lt n 3, bit-lt n 4, bit-lt n 5, bit-lt n 6, bit-lt n 7)

-- ---- what is drawn from a part is what the list has from there on
part_at : (l : List ℕ) (s n i : ℕ) → i < n → get_or (part s n l) i 0 ≡ get_or l (s + i) 0
part_at l s n i h = get_or-take n (drop s l) i 0 h ∙ get_or-drop s l i 0

big_endian_part : (l : List ℕ) (s m n : ℕ) → n ≤ m → big_endian (part s m l) 0 n ≡ big_endian l s n
unfolding big_endian
big_endian_part l s m zero h = refl
big_endian_part l s m (suc n) h = λ i.
    big_endian_part l s m n (omega arith) i * 256 + (ap (λ (k : ℕ). get_or (part s m l) k 0) (zero-add n) ∙ part_at l s m n (omega arith)) i

pub uniform_part : (l : List ℕ) (s m : ℕ) → 9 ≤ m → uniform (part s m l) 0 ≡ uniform l s
unfolding uniform
uniform_part l s m h = ap (λ (n : ℕ). n % P) (big_endian_part l s m 9 h)

-- the counts of four bytes are those of four equal ones
pub counts_same : (count : ℕ → ℕ) (l m : List ℕ) (s t : ℕ) → ((i : ℕ) → i < 4 → get_or l (s + i) 0 ≡ get_or m (t + i) 0)
    → counts count l s ≡ counts count m t
unfolding counts
counts_same count l m s t e = λ i. placed (count (e 3 (lit< tt) i)) (count (e 2 (lit< tt) i)) (count (e 1 (lit< tt) i)) (count (first i))
  where
    first : get_or l s 0 ≡ get_or m t 0
    first = ap (λ (n : ℕ). get_or l n 0) (sym (add-zero s)) ∙ e 0 (lit< tt) ∙ ap (λ (n : ℕ). get_or m n 0) (add-zero t)

pub short_part : (count : ℕ → ℕ) (l : List ℕ) (s m : ℕ) → 8 ≤ m → short count (part s m l) 0 ≡ short count l s
unfolding short
short_part count l s m h = λ i. (half 0 s (lit≤ tt) (omega arith) i + (P - half 4 (s + 4) (lit≤ tt) refl i % P)) % P
  where
    half : (t u : ℕ) → t ≤ 4 → s + t ≡ u → counts count (part s m l) t ≡ counts count l u
    half t u q g = counts_same count (part s m l) l t u (λ i r.
        part_at l s m (t + i) (omega arith) ∙ (let e : s + (t + i) ≡ u + i = omega arith in ap (λ (n : ℕ). get_or l n 0) e))

-- a number and another from the two halves of eight bytes
pub short_halves : (count : ℕ → ℕ) (l front back : List ℕ) (x y : ℕ) → front ≡ take 4 l → back ≡ drop 4 l
    → x ≡ counts count front 0 → y ≡ counts count back 0 → y < P → (x + (P - y)) % P ≡ short count l 0
unfolding short
short_halves count l front back x y ef eb ex ey h = λ i. ((ex ∙ low) i + (P - (sym (mod-eq_of_lt h) ∙ ap (λ (n : ℕ). n % P) (ey ∙ high)) i)) % P
  where
    low : counts count front 0 ≡ counts count l 0
    low = counts_same count front l 0 0 (λ i g. ap (λ (m : List ℕ). get_or m (0 + i) 0) ef ∙ get_or-take 4 l (0 + i) 0 (omega arith))

    high : counts count back 0 ≡ counts count l 4
    high = counts_same count back l 0 4 (λ i g.
        ap (λ (m : List ℕ). get_or m (0 + i) 0) eb ∙ get_or-drop 4 l (0 + i) 0
        ∙ (let e : 4 + (0 + i) ≡ 4 + i = omega arith in ap (λ (n : ℕ). get_or l n 0) e))

-- 2^64 is 2^32 - 1 modulo p
pub folded : (hi lo : ℕ) → (lo + hi * 0xffff_ffff) % P ≡ (hi * 2 ^ 64 + lo) % P
folded hi lo = mod_ring P (lit< tt) (lo ∷ hi ∷ []) (at 0 ⊞ at 1 ⊠ lit 0xffff_ffff) (at 1 ⊠ lit (2 ^ 64) ⊞ at 0) refl
