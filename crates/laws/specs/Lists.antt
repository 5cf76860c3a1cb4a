-- Lists given by an index, and parts of lists.
use Rattle.std.specs.Prelude.{◌≡◌, List, [], ◌∷◌, ℕ, zero, suc, ◌<◌, length, get_or, take, drop}

-- f i, f (i + 1), .. : n of them
unfoldable pub tab_from : {A : Type 0} → ℕ → ℕ → (ℕ → A) → List A
tab_from i zero f = []
tab_from i (suc n) f = f i ∷ tab_from (suc i) n f

-- f 0, f 1, .. , f (n - 1)
unfoldable pub tab : {A : Type 0} → ℕ → (ℕ → A) → List A
tab n f = tab_from 0 n f

-- n numbers, each below b
pub record Below (b n : ℕ) (l : List ℕ) : Type 0 where
  pub size : length l ≡ n
  pub each : (i : ℕ) → get_or l i 0 < b

-- n zeros
unfoldable pub zeros : ℕ → List ℕ
zeros n = tab n (λ i. 0)

-- n numbers from place k on
abbrev pub part : ℕ → ℕ → List ℕ → List ℕ
part k n l = take n (drop k l)
