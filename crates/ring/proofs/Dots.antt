-- What the loops of the matrix product store, place after place: four products, reduced once.
use mathlib.Core.Path.{◌≡◌, sym, ◌∙◌, ap}
use mathlib.Core.List.{List}
use Prim.Native.Nat.{ℕ, ◌+◌, ◌*◌, ◌%◌, ◌<◌}
use native.Mathlib.Nat.{zero-add}
use native.Mathlib.Omega.{arith}
use lib.ListN.{get_or}
use Rattle.laws.specs.Sums.{total}
use Rattle.laws.proofs.Lists.{get_or-tab}
use Rattle.field.specs.Field.{P}
use Rattle.ring.specs.Matrices.{cell, dot}
use Rattle.ring.proofs.Cells.{cell_at}

-- element e of a vector of four times a matrix whose elements are taken `step` apart
abbrev pub times : List ℕ → List ℕ → ℕ → ℕ → ℕ → List ℕ
times v m row step e = dot 4 (cell v) (λ q. cell m (e * row + q * step))

-- what `combined` gives is place k of four elements times four
module _ (v m : List ℕ) (e row step k at : ℕ) (hk : k < 64) (ha : at ≡ e * row * 64 + k) where
  abbrev f : ℕ → ℕ
  f q = get_or (cell v q) k 0 * get_or (cell m (e * row + q * step)) k 0

  term : (q p a : ℕ) → p ≡ q * 64 + k → a ≡ (e * row + q * step) * 64 + k → get_or v p 0 * get_or m a 0 ≡ f q
  term q p a hp ha =
      λ i. (ap (λ x. get_or v x 0) hp ∙ sym (cell_at v q k hk)) i * (ap (λ x. get_or m x 0) ha ∙ sym (cell_at m (e * row + q * step) k hk)) i

  pub dot_four : (r : ℕ)
      → r ≡ (get_or v k 0 * get_or m at 0 + get_or v (64 + k) 0 * get_or m (at + step * 64) 0
      + get_or v (128 + k) 0 * get_or m (at + 2 * (step * 64)) 0 + get_or v (192 + k) 0 * get_or m (at + 3 * (step * 64)) 0) % P
      → r ≡ get_or (times v m row step e) k 0
  unfolding dot total
  dot_four r hr =
      hr
      ∙ (λ i. (term 0 k at (omega arith) (omega arith) i + term 1 (64 + k) (at + step * 64) (omega arith) (omega arith) i
      + term 2 (128 + k) (at + 2 * (step * 64)) (omega arith) (omega arith) i
      + term 3 (192 + k) (at + 3 * (step * 64)) (omega arith) (omega arith) i) % P)
      ∙ ap (λ x. (x + f 1 + f 2 + f 3) % P) (sym (zero-add (f 0)))
      ∙ sym (get_or-tab 64 (λ j. total 4 (λ q. get_or (cell v q) j 0 * get_or (cell m (e * row + q * step)) j 0) % P) 0 k hk)
