-- Demand 2 on ga, bg and bga_m: element by element as the code works them out, and as products in the ring.
use mathlib.Core.Path.{◌≡◌, refl, sym, ap, ap₂, ◌∙◌}
use mathlib.Core.List.{List}
use Prim.Native.Nat.{ℕ, ◌+◌, ◌*◌, ◌<◌}
use native.Mathlib.Omega.{arith}
use Rattle.field.specs.Field.{Coefficients}
use Rattle.ring.specs.Transform.{transform, untransform}
use Rattle.ring.specs.Elements.{plus}
use Rattle.ring.specs.Matrices.{cell, transforms, dot, ring_dot, matrix}
use Rattle.ring.proofs.Cells.{cell-canonical, cell-transforms, cell-plus}
use Rattle.ring.proofs.Matrices.{dot_ext, transform-dot, ring_dot_canonical, matrix_column, matrix-row, matrix_single}
use Rattle.ring.proofs.Products.{plus-canonical, transform-plus}
use Rattle.ring.proofs.Transforms.{untransform-canonical, untransform-transform, transform-untransform}
use Rattle.lanes.specs.Messages.{embed}
use Rattle.lanes.proofs.Messages.{embed-canonical}
use Rattle.packets.specs.Parameters.{vector_numbers}
use Rattle.packets.specs.Packets.{G, first, second, ga_of, bg_of, bga_m_of}
use Rattle.packets.proofs.Canonical.{G_cell, first_cell, second-cell}

-- a transformed row times a transformed column, plus a transformed element: in the ring
back : (n : ℕ) (u v : ℕ → List ℕ) (e : List ℕ) → ((i : ℕ) → Coefficients 64 (u i)) → ((i : ℕ) → Coefficients 64 (v i)) → Coefficients 64 e
    → untransform (plus 64 (dot n (λ q. transform (u q)) (λ q. transform (v q))) (transform e)) ≡ plus 64 (ring_dot n u v) e
back n u v e hu hv he =
    ap untransform (ap (λ (l : List ℕ). plus 64 l (transform e)) (sym (transform-dot n u v (λ i h. hu i) (λ i h. hv i)))
    ∙ sym (transform-plus (ring_dot n u v) e (ring_dot_canonical n u v) he))
    ∙ untransform-transform (plus 64 (ring_dot n u v) e) (plus-canonical 64 (ring_dot n u v) e)

module _ (count : ℕ → ℕ) where
  -- ---- as the code works them out
  pub ga-cell : (g k : List ℕ) (i : ℕ) → i < 4
      → cell (ga_of count g k) i
      ≡ plus 64 (dot 4 (λ q. cell g (i * 4 + q)) (λ q. transform (cell (first count k) q))) (transform (cell (second count k) i))
  unfolding ga_of
  ga-cell g k i h =
      cell-plus vector_numbers (matrix 4 4 1 g (transforms 4 (first count k))) (transforms 4 (second count k)) i (omega arith)
      ∙ ap₂ (plus 64)
      (matrix_column 4 4 g (transforms 4 (first count k)) i h ∙ dot_ext 4 _ _ _ _ (λ q l. refl) (λ q l. cell-transforms 4 (first count k) q l))
      (cell-transforms 4 (second count k) i h)

  pub bg_cell : (g m : List ℕ) (i : ℕ) → i < 4
      → cell (bg_of count g m) i
      ≡ plus 64 (dot 4 (λ q. transform (cell (first count m) q)) (λ q. cell g (q * 4 + i))) (transform (cell (second count m) i))
  unfolding bg_of
  bg_cell g m i h =
      cell-plus vector_numbers (matrix 1 4 4 (transforms 4 (first count m)) g) (transforms 4 (second count m)) i (omega arith)
      ∙ ap₂ (plus 64)
      (matrix-row 4 4 (transforms 4 (first count m)) g i h ∙ dot_ext 4 _ _ _ _ (λ q l. cell-transforms 4 (first count m) q l) (λ q l. refl))
      (cell-transforms 4 (second count m) i h)

  pub bga_m_row : (ga m : List ℕ) → bga_m_of count ga m ≡ plus 64 (dot 4 (λ q. transform (cell (first count m) q)) (cell ga)) (transform (embed m))
  unfolding bga_m_of
  bga_m_row ga m =
      ap (λ (l : List ℕ). plus 64 l (transform (embed m)))
      (matrix_single 4 (transforms 4 (first count m)) ga ∙ dot_ext 4 _ _ _ _ (λ q l. cell-transforms 4 (first count m) q l) (λ q l. refl))

  -- ---- in the ring, for each of the four elements: ga = G·a + c
  pub ga_ring : (seed k : List ℕ) (i : ℕ) → i < 4
      → untransform (cell (ga_of count (G seed) k) i)
      ≡ plus 64 (ring_dot 4 (λ q. untransform (cell (G seed) (i * 4 + q))) (cell (first count k))) (cell (second count k) i)
  ga_ring seed k i h =
      ap untransform (ga-cell (G seed) k i h ∙ ap (λ (l : List ℕ). plus 64 l (transform (cell (second count k) i)))
      (dot_ext 4 _ _ _ _ (λ q l. sym (transform-untransform (cell (G seed) (i * 4 + q)) (G_cell seed (i * 4 + q)))) (λ q l. refl)))
      ∙ back 4 (λ q. untransform (cell (G seed) (i * 4 + q))) (cell (first count k)) (cell (second count k) i)
      (λ q. untransform-canonical _) (first_cell count k) (second-cell count k i)

  -- bg = b·G + d
  pub bg_ring : (seed m : List ℕ) (i : ℕ) → i < 4
      → untransform (cell (bg_of count (G seed) m) i)
      ≡ plus 64 (ring_dot 4 (cell (first count m)) (λ q. untransform (cell (G seed) (q * 4 + i)))) (cell (second count m) i)
  bg_ring seed m i h =
      ap untransform (bg_cell (G seed) m i h ∙ ap (λ (l : List ℕ). plus 64 l (transform (cell (second count m) i)))
      (dot_ext 4 _ _ _ _ (λ q l. refl) (λ q l. sym (transform-untransform (cell (G seed) (q * 4 + i)) (G_cell seed (q * 4 + i))))))
      ∙ back 4 (cell (first count m)) (λ q. untransform (cell (G seed) (q * 4 + i))) (cell (second count m) i)
      (first_cell count m) (λ q. untransform-canonical _) (second-cell count m i)

  -- bga_m = b·ga + embed(payload)
  pub bga_m_ring : (ga m : List ℕ) → Coefficients vector_numbers ga
      → untransform (bga_m_of count ga m) ≡ plus 64 (ring_dot 4 (cell (first count m)) (λ q. untransform (cell ga q))) (embed m)
  bga_m_ring ga m h =
      ap untransform (bga_m_row ga m ∙ ap (λ (l : List ℕ). plus 64 l (transform (embed m)))
      (dot_ext 4 _ _ _ _ (λ q l. refl) (λ q l. sym (transform-untransform (cell ga q) (cell-canonical ga h.each q)))))
      ∙ back 4 (cell (first count m)) (λ q. untransform (cell ga q)) (embed m) (first_cell count m) (λ q. untransform-canonical _) (embed-canonical m)
