-- The lanes of what the short sampler draws, for any count of a byte's bits that is at most s, and of the noise of vectors that it draws.
use mathlib.Core.Path.{◌≡◌, refl, sym, ◌∙◌}
use mathlib.Core.List.{List, [], ◌∷◌}
use Prim.Native.Nat.{ℕ, ◌+◌, ◌*◌, ◌-◌, ◌%◌, ◌≤◌, ◌<◌}
use native.Mathlib.Omega.{arith}
use lib.Dec.{lit<, lit≤}
use lib.IntN.{ℤ, pos, ◌+ℤ◌, neg_ℤ}
use lib.ListN.{get_or}
use Rattle.laws.proofs.Lists.{get_or-tab}
use Rattle.laws.proofs.Congruence.{c_eq, c_trans, c_neg}
use Rattle.laws.proofs.ModularSolver.{mod_ring, at, rem, neg, ◌⊞◌}
use Rattle.laws.proofs.Integers.{Sized, size-sub, Leaves, leaves_pos, leaves_add, leaves_neg}
use Rattle.field.specs.Field.{P}
use Rattle.ring.specs.Matrices.{cell}
use Rattle.ring.proofs.Cells.{cell_at, cell-canonical}
use Rattle.lanes.specs.Samplers.{ones, counts, short, shorts}
use Rattle.lanes.proofs.Samplers.{ones_small, shorts-canonical}
use Rattle.noise.specs.Noise.{Lanes, noise, guaranteed}
use Rattle.noise.proofs.Four.{Four, worth_of, quoted, On, on_lanes, lanes_wider}
use Rattle.noise.proofs.Products.{In, on_cong, in_noise}

-- b·c - d·a of vectors of n elements, each drawn from bytes of its own
abbrev pub drawn-noise : (ℕ → ℕ) → ℕ → List ℕ → List ℕ → List ℕ → List ℕ → List ℕ
drawn-noise count n a b c d =
    noise n (shorts count (n * 64) a) (shorts count (n * 64) b) (shorts count (n * 64) c) (shorts count (n * 64) d)

module _ (count : ℕ → ℕ) (s : ℕ) (small : (n : ℕ) → count n ≤ s) where
  -- the counts of two bytes, as a signed difference
  abbrev pub between : ℕ → ℕ → ℤ
  between x y = pos (count x) +ℤ neg_ℤ (pos (count y))

  -- the lanes of the coefficient drawn from place i on
  unfoldable pub drawn : List ℕ → ℕ → Four
  drawn l i = record {
    l0 = between (get_or l (i + 3) 0) (get_or l (i + 4 + 3) 0);
    l1 = between (get_or l (i + 2) 0) (get_or l (i + 4 + 2) 0);
    l2 = between (get_or l (i + 1) 0) (get_or l (i + 4 + 1) 0);
    l3 = between (get_or l i 0) (get_or l (i + 4) 0);
  }

  between_leaves : (x y : ℕ) → Leaves P (between x y) (count x + (P - count y % P))
  between_leaves x y =
      leaves_add (lit< tt) (leaves_pos (count x))
      (leaves_neg (lit< tt) (c_trans (c_eq swap) (c_neg (count y) (lit< tt))) (leaves_pos (count y)))
    where
      swap : count y + (P - count y % P) ≡ P - count y % P + count y
      swap = omega arith

  between_sized : (x y : ℕ) → Sized (between x y) s
  between_sized x y = size-sub s (count x) (count y) (small x) (small y)

  pub on_short : (l : List ℕ) (i : ℕ) → On s (drawn l i) (short count l i)
  unfolding drawn short counts
  on_short l i = record {
    worths =
        c_trans (worth_of (drawn l i) (between_leaves _ _) (between_leaves _ _) (between_leaves _ _) (between_leaves _ _))
        (record {
          same = mod_ring P (lit< tt)
              (count (get_or l (i + 3) 0) ∷ count (get_or l (i + 2) 0) ∷ count (get_or l (i + 1) 0) ∷ count (get_or l i 0)
              ∷ count (get_or l (i + 4 + 3) 0) ∷ count (get_or l (i + 4 + 2) 0) ∷ count (get_or l (i + 4 + 1) 0) ∷ count (get_or l (i + 4) 0) ∷ [])
              (quoted (at 0 ⊞ neg (at 4)) (at 1 ⊞ neg (at 5)) (at 2 ⊞ neg (at 6)) (at 3 ⊞ neg (at 7)))
              (rem (quoted (at 0) (at 1) (at 2) (at 3) ⊞ neg (quoted (at 4) (at 5) (at 6) (at 7)))) refl;
        });
    within = record { s0 = between_sized _ _; s1 = between_sized _ _; s2 = between_sized _ _; s3 = between_sized _ _ };
  }

  -- each short coefficient has lanes of size at most s
  pub short-lanes : (l : List ℕ) (i : ℕ) → Lanes s (short count l i)
  short-lanes l i = on_lanes (drawn l i) (on_short l i)

  -- element i of a vector of n, drawn from l
  pub in_shorts : (n : ℕ) (l : List ℕ) (i : ℕ) → i < n → In s (λ k. drawn l (8 * (i * 64 + k))) (cell (shorts count (n * 64) l) i)
  unfolding shorts
  in_shorts n l i h = record {
    canonical = (cell-canonical (shorts count (n * 64) l) (shorts-canonical count (n * 64) l).each i).each;
    on = λ k g.
        let q : i * 64 + k < n * 64 = omega arith in
        on_cong (c_eq (sym (cell_at (shorts count (n * 64) l) i k g ∙ get_or-tab (n * 64) (λ x. short count l (8 * x)) 0 (i * 64 + k) q)))
        (on_short l (8 * (i * 64 + k)));
  }

  -- no lane of b·c - d·a is beyond 768 n s², for vectors of n elements drawn from the bytes a, b, c, d
  pub short-noise : (n : ℕ) (a b c d : List ℕ) (k : ℕ) → k < 64 → Lanes (n * (768 * (s * s))) (get_or (drawn-noise count n a b c d) k 0)
  unfolding noise
  short-noise n a b c d k h = on_lanes _ ((in_noise s n (in_shorts n a) (in_shorts n b) (in_shorts n c) (in_shorts n d)).on k h)

-- the vectors of a key and of a payload
pub base_noise : (a b c d : List ℕ) (k : ℕ) → k < 64 → Lanes guaranteed (get_or (drawn-noise ones 4 a b c d) k 0)
base_noise a b c d k h = lanes_wider guaranteed (lit≤ tt) (short-noise ones 8 ones_small 4 a b c d k h)

-- with counts up to 2 no lane is beyond 12,288, which is within the limit
pub light_noise : (count : ℕ → ℕ) → ((n : ℕ) → count n ≤ 2)
    → (a b c d : List ℕ) (k : ℕ) → k < 64 → Lanes 12288 (get_or (drawn-noise count 4 a b c d) k 0)
light_noise count small = short-noise count 2 small 4
