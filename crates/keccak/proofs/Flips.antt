-- A round of a state with complemented lanes: what is complemented stays so.
use mathlib.Core.Path.{◌≡◌, refl, sym, ap, ap₂, ◌∙◌}
use mathlib.Core.Bool.{Bool, true, false, not, ◌||◌}
use mathlib.Core.List.{List, [], ◌∷◌}
use Prim.Native.Nat.{ℕ, zero, suc, ◌+◌, ◌-◌, ◌*◌, ◌%◌, ◌^◌, ◌<◌, ◌≤◌}
use native.Mathlib.Omega.{arith}
use lib.Bits.{bit_xor, bit_and, bit_or, xor_lt, and_lt}
use lib.Dec.{eqb, ltb, ltb→lt}
use lib.ListN.{get_or, length}
use lib.Pow.{pow_pos}
use Rattle.laws.specs.Lists.{Below, tab, tab_from}
use Rattle.laws.proofs.Bits.{bit_not, bit_ext, not-not, not-lt, xor-not, not_xor_left, or-not}
use Rattle.laws.proofs.Bounds.{tab_below}
use Rattle.laws.proofs.Lists.{get_or-tab, tab_ext, is_tab}
use Rattle.laws.proofs.Tests.{all-at}
use Rattle.keccak.specs.Lanes.{rot, parity, parities, effect, effects, rotation, source, moved, row, laid, laid_by, constants, step, rounds, keccak_p}
use Rattle.keccak.specs.Complement.{flip, differ, over, flips, flipped, complemented, over_parity, over_effect, kept_row}
use Rattle.keccak.proofs.Assembly.{whole, assembled}
use Rattle.keccak.proofs.Constants.{fours, four_constant}
use Rattle.keccak.proofs.Places.{rounds_more}
use Rattle.keccak.proofs.Rotations.{bit-rot, rot-lt}
use Rattle.keccak.proofs.Strings.{below_rounds}

-- a complement passes through `xor` and through a rotation
pub flip-lt : (p : Bool) (x : ℕ) → x < 2 ^ 64 → flip p x < 2 ^ 64
flip-lt true x h = not-lt 64 x
flip-lt false x h = h

flip-flip : (p q : Bool) (x : ℕ) → x < 2 ^ 64 → flip p (flip q x) ≡ flip (differ p q) x
flip-flip true true x h = not-not 64 x h
flip-flip true false x h = refl
flip-flip false q x h = refl

flip-xor : (p q : Bool) (x y : ℕ) → x < 2 ^ 64 → y < 2 ^ 64 → bit_xor (flip p x) (flip q y) ≡ flip (differ p q) (bit_xor x y)
flip-xor true true x y hx hy =
    not_xor_left 64 x _ hx (not-lt 64 y) ∙ ap (λ (n : ℕ). (2 ^ 64 - 1) - n) (xor-not 64 x y hx hy) ∙ not-not 64 _ (xor_lt 64 x y hx hy)
flip-xor true false x y hx hy = not_xor_left 64 x y hx hy
flip-xor false true x y hx hy = xor-not 64 x y hx hy
flip-xor false false x y hx hy = refl

flip-rot : (p : Bool) (x r : ℕ) → x < 2 ^ 64 → r < 64 → rot (flip p x) r ≡ flip p (rot x r)
flip-rot true x r hx hr =
    bit_ext 64 _ _ (rot-lt _ r (not-lt 64 x)) (not-lt 64 _)
    (λ z h. bit-rot _ r z (not-lt 64 x) hr h ∙ bit_not 64 x _ hx (omega arith)
    ∙ sym (bit_not 64 (rot x r) z (rot-lt x r hx) h ∙ ap (λ (n : ℕ). (n + 1) % 2) (bit-rot x r z hx hr h)))
flip-rot false x r hx hr = refl

flip-not : (p : Bool) (x : ℕ) → x < 2 ^ 64 → flip (not p) x ≡ (2 ^ 64 - 1) - flip p x
flip-not true x h = sym (not-not 64 x h)
flip-not false x h = refl

-- chi by `and` or by `or`, of lanes kept as u, v and w say, to be kept as o says
abbrev mix : Bool → Bool → Bool → Bool → Bool → ℕ → ℕ → ℕ → ℕ
mix true u v w o x y z = bit_xor (flip (not (differ o u)) x) (bit_or (flip v y) (flip (not w) z))
mix false u v w o x y z = bit_xor (flip (differ o u) x) (bit_and (flip (not v) y) (flip w z))

module _ (u v w o : Bool) (x y z : ℕ) (hx : x < 2 ^ 64) (hy : y < 2 ^ 64) (hz : z < 2 ^ 64) where
  abbrev inner : ℕ
  inner = bit_and ((2 ^ 64 - 1) - flip v y) (flip w z)

  inner_lt : inner < 2 ^ 64
  inner_lt = and_lt 64 ((2 ^ 64 - 1) - flip v y) (flip w z) (not-lt 64 (flip v y)) (flip-lt w z hz)

  -- a complement of the sum is one of its first part
  outer : flip o (bit_xor (flip u x) inner) ≡ bit_xor (flip (differ o u) x) inner
  outer = sym (flip-xor o false _ inner (flip-lt u x hx) inner_lt ∙ differs o) ∙ ap (λ (n : ℕ). bit_xor n inner) (flip-flip o u x hx)
    where
      differs : (p : Bool) → flip (differ p false) (bit_xor (flip u x) inner) ≡ flip p (bit_xor (flip u x) inner)
      differs true = refl
      differs false = refl

  -- or one of both
  turn : bit_xor (flip (differ o u) x) inner ≡ bit_xor (flip (not (differ o u)) x) ((2 ^ 64 - 1) - inner)
  turn = at (differ o u)
    where
      at : (p : Bool) → bit_xor (flip p x) inner ≡ bit_xor (flip (not p) x) ((2 ^ 64 - 1) - inner)
      at true = not_xor_left 64 x inner hx inner_lt ∙ sym (xor-not 64 x inner hx inner_lt)
      at false = sym (flip-xor true true x inner hx inner_lt)

  mixed-right : (f : Bool) → flip o (bit_xor (flip u x) inner) ≡ mix f u v w o x y z
  mixed-right true =
      outer ∙ turn
      ∙ ap (bit_xor (flip (not (differ o u)) x))
      (sym (or-not 64 _ _ (flip-lt v y hy) (flip-lt w z hz)) ∙ ap (bit_or (flip v y)) (sym (flip-not w z hz)))
  mixed-right false = outer ∙ ap (λ (n : ℕ). bit_xor (flip (differ o u) x) (bit_and n (flip w z))) (sym (flip-not v y hy))

-- how lane i is kept before chi, and whether chi makes it by `or`
abbrev over-moved : ℕ → Bool
over-moved i = differ (over (source i)) (over_effect (source i % 5))

abbrev by_or : ℕ → Bool
by_or i =
    eqb i 0 || eqb i 1 || eqb i 3 || eqb i 5 || eqb i 7 || eqb i 8 || eqb i 10 || eqb i 13 || eqb i 16 || eqb i 17 || eqb i 19 || eqb i 21 || eqb i 23

-- a row as the code makes it
abbrev pub made : List ℕ → List ℕ → ℕ → ℕ → ℕ
made s d y x =
    mix (by_or (x + 5 * y)) (over-moved (x + 5 * y)) (over-moved ((x + 1) % 5 + 5 * y)) (over-moved ((x + 2) % 5 + 5 * y)) (over (x + 5 * y))
    (moved s d (x + 5 * y)) (moved s d ((x + 1) % 5 + 5 * y)) (moved s d ((x + 2) % 5 + 5 * y))

get_or-flips : (f : ℕ → Bool) (n : ℕ) (s : List ℕ) (i : ℕ) → i < n → get_or (flips f n s) i 0 ≡ flip (f i) (get_or s i 0)
unfolding flips
get_or-flips f n s i h = get_or-tab n (λ k. flip (f k) (get_or s k 0)) 0 i h

module _ (s d : List ℕ) (hs : (i : ℕ) → get_or s i 0 < 2 ^ 64) (hd : (i : ℕ) → get_or d i 0 < 2 ^ 64) where
  moved-lt : (i : ℕ) → moved s d i < 2 ^ 64
  unfolding moved
  moved-lt i = rot-lt _ (rotation (source i)) (xor_lt 64 _ _ (hs (source i)) (hd (source i % 5)))

  moved-flip : (i : ℕ) → i < 25 → moved (complemented s) (flips over_effect 5 d) i ≡ flip (over-moved i) (moved s d i)
  unfolding moved complemented rotation
  moved-flip i h =
      let p = over (source i) in
      let q = over_effect (source i % 5) in
      ap₂ (λ (m n : ℕ). rot (bit_xor m n) (rotation (source i)))
      (get_or-flips over 25 s (source i) (omega arith)) (get_or-flips over_effect 5 d (source i % 5) (omega arith))
      ∙ ap (λ (n : ℕ). rot n (rotation (source i))) (flip-xor p q _ _ (hs (source i)) (hd (source i % 5)))
      ∙ flip-rot (differ p q) _ (rotation (source i)) (xor_lt 64 _ _ (hs (source i)) (hd (source i % 5))) (omega arith)

  pub row_made : (y : ℕ) → y < 5 → kept_row s d y ≡ tab 5 (made s d y)
  unfolding kept_row flips row
  row_made y h =
      tab_ext 5 _ (made s d y)
      (λ x l.
      let i = x + 5 * y in
      let j = (x + 1) % 5 + 5 * y in
      let k = (x + 2) % 5 + 5 * y in
      let fi = moved-flip i (omega arith) in
      let fj = moved-flip j (omega arith) in
      let fk = moved-flip k (omega arith) in
      ap (flip (over (x + 5 * y))) (get_or-tab 5 _ 0 x l ∙ (λ t. bit_xor (fi t) (bit_and ((2 ^ 64 - 1) - fj t) (fk t))))
      ∙ mixed-right (over-moved i) (over-moved j) (over-moved k) (over i) _ _ _ (moved-lt i) (moved-lt j) (moved-lt k) (by_or i))

  -- a parity is complemented if an odd number of its lanes are
  pub parity-flip : (x : ℕ) → x < 5 → parity (complemented s) x ≡ flip (over_parity x) (parity s x)
  unfolding parity complemented
  parity-flip x h =
      let g : (i : ℕ) → i < 25 → get_or (flips over 25 s) i 0 ≡ flip (over i) (get_or s i 0) = get_or-flips over 25 s in
      let p1 = differ (over x) (over (x + 5)) in
      let p2 = differ p1 (over (x + 10)) in
      let p3 = differ p2 (over (x + 15)) in
      let v1 = bit_xor (get_or s x 0) (get_or s (x + 5) 0) in
      let v2 = bit_xor v1 (get_or s (x + 10) 0) in
      let v3 = bit_xor v2 (get_or s (x + 15) 0) in
      let l1 : v1 < 2 ^ 64 = xor_lt 64 _ _ (hs x) (hs (x + 5)) in
      let l2 : v2 < 2 ^ 64 = xor_lt 64 _ _ l1 (hs (x + 10)) in
      let l3 : v3 < 2 ^ 64 = xor_lt 64 _ _ l2 (hs (x + 15)) in
      let e1 = ap₂ bit_xor (g x (omega arith)) (g (x + 5) (omega arith)) ∙ flip-xor (over x) (over (x + 5)) _ _ (hs x) (hs (x + 5)) in
      let e2 = ap₂ bit_xor e1 (g (x + 10) (omega arith)) ∙ flip-xor p1 (over (x + 10)) v1 _ l1 (hs (x + 10)) in
      let e3 = ap₂ bit_xor e2 (g (x + 15) (omega arith)) ∙ flip-xor p2 (over (x + 15)) v2 _ l2 (hs (x + 15)) in
      ap₂ bit_xor e3 (g (x + 20) (omega arith)) ∙ flip-xor p3 (over (x + 20)) v3 _ l3 (hs (x + 20))

pub made_kept : (s d : List ℕ) (y : ℕ) → Below (2 ^ 64) 25 s → Below (2 ^ 64) 5 d → y < 5 → tab 5 (made s d y) ≡ kept_row s d y
made_kept s d y lanes effects h = sym (row_made s d lanes.each effects.each y h)

parity-lt : (s : List ℕ) → ((i : ℕ) → get_or s i 0 < 2 ^ 64) → (x : ℕ) → parity s x < 2 ^ 64
unfolding parity
parity-lt s h x =
    xor_lt 64 _ _ (xor_lt 64 _ _ (xor_lt 64 _ _ (xor_lt 64 _ _ (h x) (h (x + 5))) (h (x + 10))) (h (x + 15))) (h (x + 20))

module _ (s : List ℕ) (h : (i : ℕ) → get_or s i 0 < 2 ^ 64) where
  parities-flip : (x : ℕ) → x < 5 → get_or (parities (complemented s)) x 0 ≡ flip (over_parity x) (get_or (parities s) x 0)
  unfolding parities
  parities-flip x l =
      get_or-tab 5 (parity (complemented s)) 0 x l ∙ parity-flip s s h h x l ∙ ap (flip (over_parity x)) (sym (get_or-tab 5 (parity s) 0 x l))

  parities-lt : (x : ℕ) → get_or (parities s) x 0 < 2 ^ 64
  unfolding parities
  parities-lt = (tab_below (2 ^ 64) 5 (parity s) (pow_pos 64) (λ k l. parity-lt s h k)).each

  -- theta's effects on the true state are those on the kept one, some complemented
  effects-flip : effects (parities (complemented s)) ≡ flips over_effect 5 (effects (parities s))
  unfolding effects effect flips
  effects-flip =
      let c = parities s in
      tab_ext 5 _ _
      (λ x l.
      let i = (x + 4) % 5 in
      let j = (x + 1) % 5 in
      ap₂ (λ (m n : ℕ). bit_xor m (rot n 1)) (parities-flip i (omega arith)) (parities-flip j (omega arith))
      ∙ ap (bit_xor (flip (over_parity i) (get_or c i 0))) (flip-rot (over_parity j) (get_or c j 0) 1 (parities-lt j) (omega arith))
      ∙ flip-xor (over_parity i) (over_parity j) (get_or c i 0) (rot (get_or c j 0) 1) (parities-lt i) (rot-lt (get_or c j 0) 1 (parities-lt j))
      ∙ ap (flip (over_effect x)) (sym (get_or-tab 5 (effect c) 0 x l)))

  -- the rows that are kept complemented, laid together
  rows_flip : (d : List ℕ) (c : ℕ) → laid_by (kept_row s d) c ≡ complemented (laid_by (row (complemented s) (flips over_effect 5 d)) c)
  unfolding kept_row complemented flips tab tab_from
  rows_flip d c = refl

  pub kept_round : (c : ℕ) → laid_by (kept_row s (effects (parities s))) c ≡ complemented (step (complemented s) c)
  kept_round c =
      rows_flip (effects (parities s)) c ∙ ap (λ (d : List ℕ). complemented (laid_by (row (complemented s) d) c)) (sym effects-flip)
      ∙ ap complemented (whole (complemented s) c)

-- and known by other names
pub kept_assembled : (a k d p q r s t v : List ℕ) (c : ℕ) → v ≡ laid p q r s t c
    → p ≡ kept_row a d 0 → q ≡ kept_row a d 1 → r ≡ kept_row a d 2 → s ≡ kept_row a d 3 → t ≡ kept_row a d 4
    → d ≡ effects k → k ≡ parities a → Below (2 ^ 64) 25 a → v ≡ complemented (step (complemented a) c)
kept_assembled a k d p q r s t v c ev ep eq er es et ed ek g =
    assembled (kept_row a) a k d p q r s t v c ek ed ep eq er es et ev ∙ kept_round a g.each c

-- the lanes that `over` names, and the first n of them complemented
unfoldable pub places : List ℕ
places = 1 ∷ 2 ∷ 8 ∷ 12 ∷ 17 ∷ 20 ∷ []

abbrev pub first_flipped : ℕ → List ℕ → List ℕ
first_flipped zero s = s
first_flipped (suc n) s = flipped (first_flipped n s) (get_or places n 0)

pub place-lt : (n : ℕ) → n < 6 → get_or places n 0 < 25
unfolding places
place-lt n h = ltb→lt (get_or places n 0) 25 (all-at (λ k. ltb (get_or places k 0) 25) 6 tt n h)

of_lanes : (s : List ℕ) → first_flipped 6 (tab 25 (λ i. get_or s i 0)) ≡ complemented s
unfolding complemented flips places tab tab_from
of_lanes s = refl

pub all_flipped : (s : List ℕ) → length s ≡ 25 → first_flipped 6 s ≡ complemented s
all_flipped s h = ap (first_flipped 6) (is_tab 25 (λ i. get_or s i 0) 0 s h (λ i l. refl)) ∙ of_lanes s

-- complementing twice gives back 25 lanes
pub twice : (s : List ℕ) → Below (2 ^ 64) 25 s → complemented (complemented s) ≡ s
unfolding complemented flips
twice s g =
    sym (is_tab 25 (λ i. flip (over i) (get_or (flips over 25 s) i 0)) 0 s g.size
    (λ i h. sym (ap (flip (over i)) (get_or-flips over 25 s i h) ∙ again (over i) (get_or s i 0) (g.each i))))
  where
    again : (p : Bool) (x : ℕ) → x < 2 ^ 64 → flip p (flip p x) ≡ x
    again true x h = not-not 64 x h
    again false x h = refl

pub below_complemented : (s : List ℕ) → Below (2 ^ 64) 25 s → Below (2 ^ 64) 25 (complemented s)
unfolding complemented flips
below_complemented s g = tab_below (2 ^ 64) 25 _ (pow_pos 64) (λ i h. flip-lt (over i) (get_or s i 0) (g.each i))

-- one round more of a state that is kept complemented
module _ (a : List ℕ) (g : Below (2 ^ 64) 25 a) where
  kept_more : (s t : List ℕ) (i c : ℕ) → i < 24 → s ≡ complemented (rounds i a) → c ≡ get_or constants i 0
      → t ≡ laid_by (kept_row s (effects (parities s))) c → t ≡ complemented (rounds (i + 1) a)
  kept_more s t i c h e q f =
      let l : i ≤ 24 = omega arith in
      let b : Below (2 ^ 64) 25 (rounds i a) = below_rounds i a l g in
      let back : complemented s ≡ rounds i a = ap complemented e ∙ twice (rounds i a) b in
      let fits : Below (2 ^ 64) 25 s = rw e (below_complemented (rounds i a) b) in
      kept_assembled s _ _ _ _ _ _ _ t c f refl refl refl refl refl refl refl fits
      ∙ ap complemented ((λ j. step (back j) (q j)) ∙ rounds_more constants a (rounds i a) _ i h refl refl refl)

  -- and four
  pub kept_four : (table : List (List ℕ)) (s t u v w : List ℕ) (i : ℕ) → table ≡ fours → i < 6 → s ≡ complemented (rounds (4 * i) a)
      → t ≡ laid_by (kept_row s (effects (parities s))) (get_or (get_or table i []) 0 0)
      → u ≡ laid_by (kept_row t (effects (parities t))) (get_or (get_or table i []) 1 0)
      → v ≡ laid_by (kept_row u (effects (parities u))) (get_or (get_or table i []) 2 0)
      → w ≡ laid_by (kept_row v (effects (parities v))) (get_or (get_or table i []) 3 0) → w ≡ complemented (rounds (4 * (i + 1)) a)
  kept_four table s t u v w i q h e et eu ev ew =
      let at : (m n : ℕ) → m ≡ n → complemented (rounds m a) ≡ complemented (rounds n a) = λ m n q. ap (λ (k : ℕ). complemented (rounds k a)) q in
      let c : (j : ℕ) → j < 4 → get_or (get_or table i []) j 0 ≡ get_or constants (4 * i + j) 0 =
      λ j l. ap (λ (x : List (List ℕ)). get_or (get_or x i []) j 0) q ∙ four_constant i j h l in
      let ft = kept_more s t (4 * i + 0) _ (omega arith) (e ∙ at (4 * i) (4 * i + 0) (omega arith)) (c 0 (omega arith)) et in
      let fu = kept_more t u (4 * i + 1) _ (omega arith) (ft ∙ at (4 * i + 0 + 1) (4 * i + 1) (omega arith)) (c 1 (omega arith)) eu in
      let fv = kept_more u v (4 * i + 2) _ (omega arith) (fu ∙ at (4 * i + 1 + 1) (4 * i + 2) (omega arith)) (c 2 (omega arith)) ev in
      let fw = kept_more v w (4 * i + 3) _ (omega arith) (fv ∙ at (4 * i + 2 + 1) (4 * i + 3) (omega arith)) (c 3 (omega arith)) ew in
      fw ∙ at (4 * i + 3 + 1) (4 * (i + 1)) (omega arith)

pub kept_none : (s : List ℕ) → Below (2 ^ 64) 25 s → s ≡ complemented (rounds 0 (complemented s))
unfolding rounds
kept_none s g = sym (twice s g)

pub kept_all : (a s : List ℕ) (i : ℕ) → i ≡ 24 → s ≡ complemented (rounds i a) → s ≡ complemented (keccak_p a)
unfolding keccak_p
kept_all a s i h e = e ∙ ap (λ (n : ℕ). complemented (rounds n a)) h

-- around 24 rounds of the complemented lanes, the permutation of the lanes
pub uncomplemented : (a b r v : List ℕ) → Below (2 ^ 64) 25 a → b ≡ complemented a → r ≡ complemented (keccak_p (complemented b)) → v ≡ complemented r
    → v ≡ keccak_p a
unfolding keccak_p
uncomplemented a b r v g eb er ev =
    ev ∙ ap complemented (er ∙ ap (λ (x : List ℕ). complemented (rounds 24 (complemented x))) eb)
    ∙ ap (λ (x : List ℕ). complemented (complemented (rounds 24 x))) (twice a g) ∙ twice (rounds 24 a) (below_rounds 24 a (omega arith) g)
