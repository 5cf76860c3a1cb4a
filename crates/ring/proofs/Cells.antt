-- The elements of a flat list of ring elements.
use mathlib.Core.Path.{◌≡◌, sym, ◌∙◌, ap}
use mathlib.Core.List.{List}
use Prim.Native.Nat.{ℕ, ◌+◌, ◌*◌, ◌-◌, ◌/◌, ◌%◌, ◌≤◌, ◌<◌}
use native.Mathlib.Omega.{arith}
use lib.ListN.{length, get_or, drop, length-drop}
use lib.Seq.{length-take-le, get_or-take, get_or-drop}
use Rattle.laws.specs.Lists.{part}
use Rattle.laws.proofs.Lists.{get_or-tab, is_tab, tab_ext}
use Rattle.laws.proofs.Bounds.{tab_below, below_as}
use Rattle.laws.proofs.Updates.{Filled, mapped_none, mapped_at, mapped_end}
use Rattle.laws.proofs.Parts.{put, mapped_put}
use Rattle.field.specs.Field.{P, Coefficients}
use Rattle.ring.specs.Transform.{transform}
use Rattle.ring.specs.Elements.{plus, minus}
use Rattle.ring.specs.Matrices.{cell, flat, transforms}
use Rattle.ring.proofs.Residue.{p_pos}
use Rattle.ring.proofs.Transforms.{transform-canonical}

pub cell_at : (l : List ℕ) (i k : ℕ) → k < 64 → get_or (cell l i) k 0 ≡ get_or l (i * 64 + k) 0
unfolding cell
cell_at l i k h = get_or-tab 64 (λ n. get_or l (i * 64 + n) 0) 0 k h

pub cell-canonical : (l : List ℕ) → ((i : ℕ) → get_or l i 0 < P) → (i : ℕ) → Coefficients 64 (cell l i)
unfolding cell
cell-canonical l h i = tab_below P 64 (λ n. get_or l (i * 64 + n) 0) p_pos (λ n q. h (i * 64 + n))

-- a list of 64 is its own element 0
pub cell-whole : (l : List ℕ) → length l ≡ 64 → cell l 0 ≡ l
unfolding cell
cell-whole l h = sym (is_tab 64 (λ n. get_or l (0 * 64 + n) 0) 0 l h (λ k q. let e : k ≡ 0 * 64 + k = omega arith in ap (λ n. get_or l n 0) e))

pub flat-at : (n : ℕ) (f : ℕ → List ℕ) (i k : ℕ) → i < n → k < 64 → get_or (flat n f) (i * 64 + k) 0 ≡ get_or (f i) k 0
unfolding flat
flat-at n f i k h q =
    let s : i * 64 + k < n * 64 = omega arith in
    let e : (i * 64 + k) / 64 ≡ i = omega arith in
    let o : (i * 64 + k) % 64 ≡ k = omega arith in
    get_or-tab (n * 64) (λ x. get_or (f (x / 64)) (x % 64) 0) 0 (i * 64 + k) s ∙ (λ j. get_or (f (e j)) (o j) 0)

pub flat_ext : (n : ℕ) (f g : ℕ → List ℕ) → ((i : ℕ) → i < n → f i ≡ g i) → flat n f ≡ flat n g
unfolding flat
flat_ext n f g e = tab_ext (n * 64) _ _ (λ x h. ap (λ l. get_or l (x % 64) 0) (e (x / 64) (let q : x / 64 < n = omega arith in q)))

pub flat-canonical : (n : ℕ) (f : ℕ → List ℕ) → ((i : ℕ) → i < n → Coefficients 64 (f i)) → Coefficients (n * 64) (flat n f)
unfolding flat
flat-canonical n f h =
    tab_below P (n * 64) (λ x. get_or (f (x / 64)) (x % 64) 0) p_pos (λ x q. (h (x / 64) (let l : x / 64 < n = omega arith in l)).each (x % 64))

pub cell-flat : (n : ℕ) (f : ℕ → List ℕ) (i : ℕ) → i < n → length (f i) ≡ 64 → cell (flat n f) i ≡ f i
unfolding cell
cell-flat n f i h e = sym (is_tab 64 (λ k. get_or (flat n f) (i * 64 + k) 0) 0 (f i) e (λ k q. sym (flat-at n f i k h q)))

pub cell-transforms : (n : ℕ) (l : List ℕ) (i : ℕ) → i < n → cell (transforms n l) i ≡ transform (cell l i)
unfolding transforms
cell-transforms n l i h = cell-flat n (λ i. transform (cell l i)) i h (transform-canonical (cell l i)).size

pub transforms-canonical : (n : ℕ) (l : List ℕ) → Coefficients (n * 64) (transforms n l)
unfolding transforms
transforms-canonical n l = flat-canonical n (λ i. transform (cell l i)) (λ i h. transform-canonical (cell l i))

-- element i of a sum of m coefficients, and of a difference
module _ (m : ℕ) (u w : List ℕ) (i : ℕ) (h : i * 64 + 64 ≤ m) where
  pub cell-plus : cell (plus m u w) i ≡ plus 64 (cell u i) (cell w i)
  unfolding cell plus
  cell-plus = tab_ext 64 _ _ (λ k g.
      get_or-tab m (λ x. (get_or u x 0 + get_or w x 0) % P) 0 (i * 64 + k) (omega arith)
      ∙ (λ j. (sym (cell_at u i k g) j + sym (cell_at w i k g) j) % P))

  pub cell-minus : cell (minus m u w) i ≡ minus 64 (cell u i) (cell w i)
  unfolding cell minus
  cell-minus = tab_ext 64 _ _ (λ k g.
      get_or-tab m (λ x. (get_or u x 0 + (P - get_or w x 0)) % P) 0 (i * 64 + k) (omega arith)
      ∙ (λ j. (sym (cell_at u i k g) j + (P - sym (cell_at w i k g) j)) % P))

-- ---- elements stored one after another: i of n are there
pub record Stored (f : ℕ → List ℕ) (n i : ℕ) (old new : List ℕ) : Type 0 where
  pub size : length old ≡ n * 64
  pub within : i ≤ n
  pub done : Filled (λ x. get_or (f (x / 64)) (x % 64) 0) (i * 64) old new

pub stored_none : {f : ℕ → List ℕ} {n : ℕ} {old : List ℕ} → length old ≡ n * 64 → Stored f n 0 old old
stored_none e = record { size = e; within = omega arith; done = mapped_none _ _ }

-- the places from i * 64 up to i * 64 + 64
abbrev pub width : ℕ → ℕ
width i = i * 64 + 64 - i * 64

module _ {f : ℕ → List ℕ} {n i : ℕ} {old new : List ℕ} (s : Stored f n i old new) where
  -- what a turn is lent is 64 numbers, the next element as it was
  pub stored_size : i < n → length (part (i * 64) (width i) new) ≡ 64
  stored_size h =
      let e : width i ≡ 64 = omega arith in
      length-take-le (width i) (drop (i * 64) new) (omega (arith, s.size, s.done.same_length, length-drop (i * 64) new)) ∙ e

  pub stored_next : i < n → part (i * 64) (width i) new ≡ cell old i
  unfolding cell
  stored_next h = is_tab 64 _ 0 (part (i * 64) (width i) new) (stored_size h) (λ k l.
      get_or-take (width i) (drop (i * 64) new) k 0 (omega arith) ∙ get_or-drop (i * 64) new k 0 ∙ s.done.rest (i * 64 + k) (omega arith))

  pub stored_more : (r : List ℕ) → i < n → length r ≡ 64 → ((k : ℕ) → k < 64 → get_or r k 0 ≡ get_or (f i) k 0)
      → Stored f n (i + 1) old (put (i * 64) (width i) r new)
  stored_more r h e q = record {
    size = s.size;
    within = omega arith;
    done =
        let size : length r ≡ width i = e ∙ (let w : 64 ≡ width i = omega arith in w) in
        let fits : i * 64 + width i ≤ length old = omega (arith, s.size) in
        mapped_at (let w : i * 64 + width i ≡ (i + 1) * 64 = omega arith in w)
        (mapped_put _ (i * 64) (width i) r old new size fits (λ k l. at k (omega arith)) s.done);
  }
    where
      at : (k : ℕ) → k < 64 → get_or r k 0 ≡ get_or (f ((i * 64 + k) / 64)) ((i * 64 + k) % 64) 0
      at k l =
          let d : i ≡ (i * 64 + k) / 64 = omega arith in
          let o : k ≡ (i * 64 + k) % 64 = omega arith in
          q k l ∙ (λ j. get_or (f (d j)) (o j) 0)

  pub stored_all : i ≡ n → new ≡ flat n f
  unfolding flat
  stored_all e = mapped_end _ (n * 64) (i * 64) old new (ap (λ k. k * 64) e) s.size s.done

-- each of them transformed in place
abbrev pub Transformed : ℕ → ℕ → List ℕ → List ℕ → Type 0
Transformed n i old new = Stored (λ j. transform (cell old j)) n i old new

module _ {n i : ℕ} {old new : List ℕ} (s : Transformed n i old new) (h : i < n) where
  pub transformed_next : Coefficients (n * 64) old → Coefficients 64 (part (i * 64) (width i) new)
  transformed_next c = below_as (stored_next s h) (cell-canonical old c.each i)

  pub transformed_more : (r : List ℕ) → r ≡ transform (part (i * 64) (width i) new) → Transformed n (i + 1) old (put (i * 64) (width i) r new)
  transformed_more r e =
      let is = e ∙ ap transform (stored_next s h) in
      stored_more s r h (ap length is ∙ (transform-canonical (cell old i)).size) (λ k l. ap (λ l. get_or l k 0) is)

pub transformed_all : {n i : ℕ} {old new : List ℕ} → Transformed n i old new → i ≡ n → new ≡ transforms n old
unfolding transforms
transformed_all s e = stored_all s e
