-- What a loop has done that goes over a slice and stores at each place once: the first i elements are made anew, each from its place
-- and what stood there; the rest is as it was.
use mathlib.Core.Path.{◌≡◌, refl, sym, ap, ◌∙◌, subst}
use mathlib.Core.List.{List}
use Prim.Native.Nat.{ℕ, ◌+◌, ◌<◌, ◌≤◌}
use native.Mathlib.Nat.{not-suc-le-zero}
use native.Mathlib.Decide.{ℕ_discrete}
use native.Mathlib.Omega.{arith}
use lib.ListN.{length, get_or, set, length-set}
use lib.Seq.{get_or-set_same, get_or-set_other, ext_get_or}
use Rattle.laws.specs.Lists.{tab}
use Rattle.laws.proofs.Lists.{is_tab}

pub record Mapped (g : ℕ → ℕ → ℕ) (i : ℕ) (old new : List ℕ) : Type 0 where
  pub same_length : length new ≡ length old
  pub passed : (j : ℕ) → j < i → get_or new j 0 ≡ g j (get_or old j 0)
  pub rest : (j : ℕ) → i ≤ j → get_or new j 0 ≡ get_or old j 0

-- the same where what stood there does not count
abbrev pub Filled : (ℕ → ℕ) → ℕ → List ℕ → List ℕ → Type 0
Filled g i old new = Mapped (λ j x. g j) i old new

pub mapped_none : (g : ℕ → ℕ → ℕ) (l : List ℕ) → Mapped g 0 l l
mapped_none g l = record { same_length = refl; passed = λ j h. absurd (not-suc-le-zero h); rest = λ j h. refl }

-- one turn of the loop
pub mapped_more : (g : ℕ → ℕ → ℕ) (i v : ℕ) (old new : List ℕ) → i < length old → v ≡ g i (get_or old i 0) → Mapped g i old new
    → Mapped g (i + 1) old (set new i v)
mapped_more g i v old new h e m = record {
  same_length = length-set new i v ∙ m.same_length;
  passed = λ j q. at j q (ℕ_discrete j i);
  rest = λ j q. get_or-set_other new i j v 0 (omega arith) ∙ m.rest j (omega arith);
}
  where
    at : (j : ℕ) → j < i + 1 → Dec (j ≡ i) → get_or (set new i v) j 0 ≡ g j (get_or old j 0)
    at j q (yes r) =
        subst (λ (k : ℕ). get_or (set new i v) k 0 ≡ g k (get_or old k 0)) (sym r) (get_or-set_same new i v 0 (omega (arith, m.same_length)) ∙ e)
    at j q (no r) = get_or-set_other new i j v 0 r ∙ m.passed j (omega arith)

-- the same where what is stored was made from what stands there now
pub mapped_step : (g : ℕ → ℕ → ℕ) (i v : ℕ) (old new : List ℕ) → i < length old → v ≡ g i (get_or new i 0) → Mapped g i old new
    → Mapped g (i + 1) old (set new i v)
mapped_step g i v old new h e m = mapped_more g i v old new h (e ∙ ap (g i) (m.rest i (omega arith))) m

-- the loop's end
pub mapped_all : (g : ℕ → ℕ → ℕ) (n : ℕ) (old new : List ℕ) → length old ≡ n → Mapped g n old new → new ≡ tab n (λ j. g j (get_or old j 0))
mapped_all g n old new e m = is_tab n (λ j. g j (get_or old j 0)) 0 new (m.same_length ∙ e) m.passed

-- the same at an equal place
pub mapped_at : {g : ℕ → ℕ → ℕ} {i j : ℕ} {old new : List ℕ} → i ≡ j → Mapped g i old new → Mapped g j old new
mapped_at {g} {old = old} {new = new} e m = subst (λ (k : ℕ). Mapped g k old new) e m

-- the loop's end, where its counter has come to n
pub mapped_end : (g : ℕ → ℕ → ℕ) (n i : ℕ) (old new : List ℕ) → i ≡ n → length old ≡ n → Mapped g i old new → new ≡ tab n (λ j. g j (get_or old j 0))
mapped_end g n i old new e h m = mapped_all g n old new h (mapped_at e m)

-- the end of a loop that copies
pub copied : (from old new : List ℕ) (i : ℕ) → length from ≡ length old → i ≡ length old → Filled (λ j. get_or from j 0) i old new → new ≡ from
copied from old new i h e m = ext_get_or 0 new from (m.same_length ∙ sym h) (λ j q. m.passed j (omega (arith, m.same_length)))
