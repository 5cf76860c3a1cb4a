-- The noise theorem, and that its bound is sharp.
use mathlib.Core.Path.{◌≡◌, refl, sym, ap, ◌∙◌, subst}
use mathlib.Core.List.{List, ◌∷◌}
use Prim.Native.Nat.{ℕ, zero, suc, ◌+◌, ◌*◌, ◌%◌, ◌^◌, ◌<◌}
use native.Mathlib.Nat.{le_of_suc-le-suc, add_assoc, add-zero, mod-lt, mod-eq_of_lt}
use native.Mathlib.Omega.{arith}
use lib.Dec.{lit<, lit≤}
use lib.IntN.{ℤ, pos, negsuc}
use lib.ListN.{get_or, replicate}
use Rattle.laws.specs.Lists.{tab, tab_from, Below, zeros}
use Rattle.laws.specs.Congruence.{Cong}
use Rattle.laws.specs.Integers.{residue}
use Rattle.laws.proofs.Tests.{equal_at}
use Rattle.laws.proofs.Lists.{get_or-tab, is_tab}
use Rattle.laws.proofs.Bits.{bit-lt}
use Rattle.laws.proofs.Bounds.{tab_below}
use Rattle.laws.proofs.Congruence.{c_refl, c_eq, c_trans, c_sym, c_add, c_mul, c_mod}
use Rattle.laws.proofs.Integers.{Sized, over, under, over_at_most, under_at_most, leaves_residue}
use Rattle.field.specs.Field.{P, Coefficients}
use Rattle.ring.specs.Elements.{plus}
use Rattle.laws.specs.Bits.{bit}
use Rattle.lanes.specs.FourLanes.{placed}
use Rattle.lanes.specs.Messages.{lifted, embed, chunk_bit, read, extracted, extract}
use Rattle.lanes.proofs.Messages.{embed_even, embed_odd, embed-canonical}
use Rattle.noise.specs.Noise.{Lanes, limit, Harmless}
use Rattle.noise.proofs.Chunks.{Noisy, reads}
use Rattle.noise.proofs.Four.{Four, worth, On, four_of, lanes_on}

-- ---- one coefficient
-- four bits of n from h on, as a number
abbrev nibble : ℕ → ℕ → ℕ
nibble n h = bit n h + 2 * bit n (h + 1) + 4 * bit n (h + 2) + 8 * bit n (h + 3)

-- the negative parts of the lanes brought to the other side
apart : {b w : ℕ} (e : Four) → On b e w
    → Cong P (w + placed (under e.l0) (under e.l1) (under e.l2) (under e.l3))
    (placed (over e.l0) (over e.l1) (over e.l2) (over e.l3))
unfolding worth
apart {b} {w} e o =
    c_trans (c_add (c_sym o.worths) c_refl)
    (c_trans (c_eq (gather (residue P e.l0) (residue P e.l1) (residue P e.l2) (residue P e.l3)
    (under e.l0) (under e.l1) (under e.l2) (under e.l3)))
    (c_add (c_add (c_add (side e.l0) (c_mul c_refl (side e.l1))) (c_mul c_refl (side e.l2))) (c_mul c_refl (side e.l3))))
  where
    side : (z : ℤ) → Cong P (residue P z + under z) (over z)
    side z = (leaves_residue (lit< tt) z).leaves

    gather : (a b c d a' b' c' d' : ℕ) → placed a b c d + placed a' b' c' d' ≡ placed (a + a') (b + b') (c + c') (d + d')
    gather a b c d a' b' c' d' = omega arith

one_coefficient : (n h w : ℕ) → Lanes limit w → read ((lifted n h + w) % P) ≡ nibble n h
unfolding lifted
one_coefficient n h w l =
    reads ((a + w) % P) (bit n h) (bit n (h + 1)) (bit n (h + 2)) (bit n (h + 3)) _ _ _ _ _ _ _ _
    (noisy h o.within.s0) (noisy (h + 1) o.within.s1) (noisy (h + 2) o.within.s2) (noisy (h + 3) o.within.s3)
    (mod-lt (a + w) (lit< tt)) moved.same
  where
    e : Four
    e = four_of l

    o : On limit e w
    o = lanes_on l

    a : ℕ
    a = placed (2 ^ 15 * bit n h) (2 ^ 15 * bit n (h + 1)) (2 ^ 15 * bit n (h + 2)) (2 ^ 15 * bit n (h + 3))

    noisy : (j : ℕ) {z : ℤ} → Sized z limit → Noisy (bit n j) (over z) (under z)
    noisy j {z} s = record { bit-small = le_of_suc-le-suc (bit-lt n j); up = over_at_most z s; down = under_at_most z s }

    moved : Cong P ((a + w) % P + placed (under e.l0) (under e.l1) (under e.l2) (under e.l3))
        (a + placed (over e.l0) (over e.l1) (over e.l2) (over e.l3))
    moved = c_trans (c_add c_mod c_refl) (c_trans (c_eq (add_assoc a w _)) (c_add c_refl (apart e o)))

-- ---- all of them
-- a byte is its bits
bits : (n : ℕ) → n < 256 → nibble n 0 + 16 * nibble n 4 ≡ n
unfolding bit
bits n h = equal_at (λ m. nibble m 0 + 16 * nibble m 4) (λ m. m) 256 tt n h

plus-at : (a b : List ℕ) (k : ℕ) → k < 64 → get_or (plus 64 a b) k 0 ≡ (get_or a k 0 + get_or b k 0) % P
unfolding plus
plus-at a b k h = get_or-tab 64 (λ k. (get_or a k 0 + get_or b k 0) % P) 0 k h

-- small noise never turns a bit
pub noise_theorem : Harmless limit
unfolding extract
noise_theorem m w bytes coefficients small = sym (is_tab 32 (λ i. extracted (plus 64 (embed m) w) i) 0 m bytes.size (λ i h. sym (at i h)))
  where
    half : (k n h : ℕ) → k < 64 → get_or (embed m) k 0 ≡ lifted n h → read (get_or (plus 64 (embed m) w) k 0) ≡ nibble n h
    half k n h q e =
        ap read (plus-at (embed m) w k q ∙ ap (λ (x : ℕ). (x + get_or w k 0) % P) e) ∙ one_coefficient n h (get_or w k 0) (small k q)

    at : (i : ℕ) → i < 32 → extracted (plus 64 (embed m) w) i ≡ get_or m i 0
    at i h =
        (λ j. half (2 * i) (get_or m i 0) 0 (omega arith) (embed_even m i h) j
        + 16 * half (2 * i + 1) (get_or m i 0) 4 (omega arith) (embed_odd m i h) j)
        ∙ bits (get_or m i 0) (bytes.each i)

-- ---- no noise
no_lanes : (b : ℕ) → Lanes b 0
unfolding residue
no_lanes b = record {
  e0 = pos 0;
  e1 = pos 0;
  e2 = pos 0;
  e3 = pos 0;
  small0 = omega arith;
  small1 = omega arith;
  small2 = omega arith;
  small3 = omega arith;
  congruent = refl;
}

-- extraction gives back every payload
pub extract-embed : (payload : List ℕ) → Below 256 32 payload → extract (embed payload) ≡ payload
unfolding zeros plus
extract-embed m bytes =
    ap extract (is_tab 64 _ 0 (embed m) canonical.size (λ k h. sym (unchanged k h)))
    ∙ noise_theorem m (zeros 64) bytes (tab_below P 64 (λ k. 0) (lit< tt) (λ k h. lit< tt)) (λ k h. rw (zero-at k h) (no_lanes limit))
  where
    canonical : Coefficients 64 (embed m)
    canonical = embed-canonical m

    zero-at : (k : ℕ) → k < 64 → get_or (zeros 64) k 0 ≡ 0
    zero-at k h = unfold zeros in get_or-tab 64 (λ i. 0) 0 k h

    unchanged : (k : ℕ) → k < 64 → (get_or (embed m) k 0 + get_or (zeros 64) k 0) % P ≡ get_or (embed m) k 0
    unchanged k h = rw (zero-at k h, add-zero) (mod-eq_of_lt (canonical.each k))

-- ---- the bound is sharp: on a payload of zeros the lanes 0, -1, -16382, -1 in coefficient 0 turn bit 2 (docs/SCHEME.md, "Points at the edges")
unfoldable pub turning : ℕ → ℕ
turning zero = placed 1 65535 49152 65534
turning (suc k) = 0

pub turning_lanes : (k : ℕ) → Lanes (limit + 1) (turning k)
unfolding turning residue
turning_lanes zero = record {
  e0 = pos 0;
  e1 = negsuc 0;
  e2 = negsuc 16381;
  e3 = negsuc 0;
  small0 = lit≤ tt;
  small1 = lit≤ tt;
  small2 = lit≤ tt;
  small3 = lit≤ tt;
  congruent = refl;
}
turning_lanes (suc k) = no_lanes (limit + 1)

pub turned : extract (plus 64 (embed (replicate 32 0)) (tab 64 turning)) ≡ 4 ∷ replicate 31 0
unfolding extract plus embed lifted bit read chunk_bit tab tab_from turning
turned = refl

pub sharp : Harmless (limit + 1) → ⊥
sharp claim =
    let z : ◌≡◌ {A = ℕ} 4 0 = ap (λ (l : List ℕ). get_or l 0 0) (sym turned ∙ claim (replicate 32 0) (tab 64 turning) bytes canonical lanes) in
    omega arith
  where
    bytes : Below 256 32 (replicate 32 0)
    bytes =
        let e : tab {A = ℕ} 32 (λ k. 0) ≡ replicate 32 0 = unfold tab tab_from in refl in
        subst (λ (l : List ℕ). Below 256 32 l) e (tab_below 256 32 (λ k. 0) (lit< tt) (λ k h. lit< tt))

    below : (k : ℕ) → turning k < P
    below zero = unfold turning in lit< tt
    below (suc k) = unfold turning in lit< tt

    canonical : Coefficients 64 (tab 64 turning)
    canonical = tab_below P 64 turning (lit< tt) (λ k h. below k)

    lanes : (k : ℕ) → k < 64 → Lanes (limit + 1) (get_or (tab 64 turning) k 0)
    lanes k h = subst (λ (x : ℕ). Lanes (limit + 1) x) (sym (get_or-tab 64 turning 0 k h)) (turning_lanes k)
