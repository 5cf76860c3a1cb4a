-- Keys and packets have the sizes of docs/SCHEME.md, "Layouts", with canonical coefficients.
use mathlib.Core.Path.{◌≡◌, ◌∙◌}
use mathlib.Core.List.{List, ◌++◌}
use Prim.Native.Nat.{ℕ, ◌+◌, ◌*◌, ◌≤◌, ◌<◌}
use native.Mathlib.Omega.{arith}
use lib.Dec.{lit<}
use lib.ListN.{get_or, take, drop, length-append, length-drop}
use lib.Seq.{length-take-le}
use Rattle.laws.specs.Lists.{Below, part}
use Rattle.laws.proofs.Lists.{get_or-tab, each_append, each_take, each-drop}
use Rattle.codec.specs.Sizes.{ciphertext_numbers}
use Rattle.field.specs.Field.{P, Coefficients}
use Rattle.ring.specs.Matrices.{cell}
use Rattle.ring.proofs.Cells.{cell-canonical}
use Rattle.ring.proofs.Products.{plus-canonical}
use Rattle.lanes.specs.Samplers.{uniform, uniforms}
use Rattle.lanes.proofs.Samplers.{uniforms-canonical, shorts-canonical}
use Rattle.hash.specs.Fips202.{shake256}
use Rattle.packets.specs.Parameters.{vector_numbers, matrix_numbers, matrix_bytes, vector_bytes, vectors_bytes}
use Rattle.packets.specs.Packets.{PublicKey, G, first, second, ga_of, public_key, bg_of, bga_m_of, sealing}

-- ---- lists below a bound, joined and cut
pub append_below : (b m n : ℕ) (s t : List ℕ) → 0 < b → Below b m s → Below b n t → Below b (m + n) (s ++ t)
append_below b m n s t pos hs ht = record {
  size = length-append s t ∙ (λ i. hs.size i + ht.size i);
  each = each_append b pos s t hs.each ht.each;
}

pub part_below : (b k n m : ℕ) (l : List ℕ) → 0 < b → k + n ≤ m → Below b m l → Below b n (part k n l)
part_below b k n m l pos h hl = record {
  size = length-take-le n (drop k l) (omega (arith, length-drop k l, hl.size));
  each = each_take b pos n (drop k l) (each-drop b pos k l hl.each);
}

-- ---- keys and packets
-- coefficient k of G is the draw of nine bytes from 9 k on, as it stands: not transformed again, nothing redrawn
pub G_draw : (seed : List ℕ) (k : ℕ) → k < matrix_numbers → get_or (G seed) k 0 ≡ uniform (shake256 seed matrix_bytes) (9 * k)
unfolding G uniforms
G_draw seed k h = get_or-tab matrix_numbers (λ i. uniform (shake256 seed matrix_bytes) (9 * i)) 0 k h

pub G_canonical : (seed : List ℕ) → Coefficients matrix_numbers (G seed)
unfolding G
G_canonical seed = uniforms-canonical matrix_numbers (shake256 seed matrix_bytes)

pub G_cell : (seed : List ℕ) (i : ℕ) → Coefficients 64 (cell (G seed) i)
G_cell seed = cell-canonical (G seed) (G_canonical seed).each

module _ (count : ℕ → ℕ) where
  pub first-canonical : (k : List ℕ) → Coefficients vector_numbers (first count k)
  unfolding first
  first-canonical k = shorts-canonical count vector_numbers (take vector_bytes (shake256 k vectors_bytes))

  pub second-canonical : (k : List ℕ) → Coefficients vector_numbers (second count k)
  unfolding second
  second-canonical k = shorts-canonical count vector_numbers (part vector_bytes vector_bytes (shake256 k vectors_bytes))

  pub first_cell : (k : List ℕ) (i : ℕ) → Coefficients 64 (cell (first count k) i)
  first_cell k = cell-canonical (first count k) (first-canonical k).each

  pub second-cell : (k : List ℕ) (i : ℕ) → Coefficients 64 (cell (second count k) i)
  second-cell k = cell-canonical (second count k) (second-canonical k).each

  pub ga-canonical : (g k : List ℕ) → Coefficients vector_numbers (ga_of count g k)
  unfolding ga_of
  ga-canonical g k = plus-canonical vector_numbers _ _

  pub public-canonical : (sk : List ℕ) → Coefficients vector_numbers (public_key count sk).ga
  unfolding public_key
  public-canonical sk = ga-canonical _ _

  pub bg_canonical : (g m : List ℕ) → Coefficients vector_numbers (bg_of count g m)
  unfolding bg_of
  bg_canonical g m = plus-canonical vector_numbers _ _

  pub bga_m_canonical : (ga m : List ℕ) → Coefficients 64 (bga_m_of count ga m)
  unfolding bga_m_of
  bga_m_canonical ga m = plus-canonical 64 _ _

  pub sealing-canonical : (pk : PublicKey) (m : List ℕ) → Coefficients ciphertext_numbers (sealing count pk m)
  unfolding sealing
  sealing-canonical pk m = append_below P vector_numbers 64 _ _ (lit< tt) (bg_canonical (G pk.seed) m) (bga_m_canonical pk.ga m)
