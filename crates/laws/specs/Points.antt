-- Tables of worked points: what is asked, and the answer that a document tells.
use Rattle.std.specs.Prelude.{◌≡◌, List, map, ℕ}

pub record Row (Asked : Type 0) : Type 0 where
  pub asked : Asked
  pub told : List ℕ

abbrev pub row : {Asked : Type 0} → Asked → List ℕ → Row Asked
row a t = record { asked = a; told = t }

-- every row's answer is the one told
abbrev pub Holds : {Asked : Type 0} → (Asked → List ℕ) → List (Row Asked) → Type 0
Holds {Asked} answer rows = map (λ (r : Row Asked). answer r.asked) rows ≡ map (λ (r : Row Asked). r.told) rows
