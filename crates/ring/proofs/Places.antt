-- What a loop has done that makes each number anew from its place and what stood there: the first i are made, the rest is as it was.
use mathlib.Core.Path.{◌≡◌, refl, sym, ◌∙◌, subst}
use mathlib.Core.List.{List}
use Prim.Native.Nat.{ℕ, ◌+◌, ◌≤◌, ◌<◌}
use native.Mathlib.Nat.{le_refl, not-suc-le-zero}
use native.Mathlib.Decide.{ℕ_discrete}
use native.Mathlib.Omega.{arith}
use lib.ListN.{length, get_or, set, length-set}
use lib.Seq.{get_or-set_same, get_or-set_other}
use Rattle.laws.specs.Lists.{tab}
use Rattle.laws.proofs.Lists.{is_tab}

pub record Placed (R : ℕ → ℕ → Type 0) (i : ℕ) (old new : List ℕ) : Type 0 where
  pub same_length : length new ≡ length old
  pub passed : (j : ℕ) → j < i → R j (get_or new j 0)
  pub rest : (j : ℕ) → i ≤ j → get_or new j 0 ≡ get_or old j 0

pub placed_none : {R : ℕ → ℕ → Type 0} {l : List ℕ} → Placed R 0 l l
placed_none = record { same_length = refl; passed = λ j h. absurd (not-suc-le-zero h); rest = λ j h. refl }

pub placed_more : {R : ℕ → ℕ → Type 0} {i : ℕ} {old new : List ℕ} (v : ℕ) → i < length old → R i v
    → Placed R i old new → Placed R (i + 1) old (set new i v)
placed_more {R} {i} {old} {new} v h r p = record {
  same_length = length-set new i v ∙ p.same_length;
  passed = λ j q. at j q (ℕ_discrete j i);
  rest = λ j q. get_or-set_other new i j v 0 (omega arith) ∙ p.rest j (omega arith);
}
  where
    at : (j : ℕ) → j < i + 1 → Dec (j ≡ i) → R j (get_or (set new i v) j 0)
    at j q (yes e) =
        subst (λ (k : ℕ). R k (get_or (set new i v) k 0)) (sym e)
        (subst (λ (x : ℕ). R i x) (sym (get_or-set_same new i v 0 (omega (arith, p.same_length)))) r)
    at j q (no n) = subst (λ (x : ℕ). R j x) (sym (get_or-set_other new i j v 0 n)) (p.passed j (omega arith))

-- the next number is as it was
pub placed_next : {R : ℕ → ℕ → Type 0} {i : ℕ} {old new : List ℕ} → Placed R i old new → get_or new i 0 ≡ get_or old i 0
placed_next {i = i} p = p.rest i (le_refl i)

-- where each number is g of its place and of what stood there
pub placed_tab : (g : ℕ → ℕ → ℕ) (n : ℕ) (old : List ℕ) {new : List ℕ} → length old ≡ n → length new ≡ length old
    → ((k : ℕ) → k < length old → get_or new k 0 ≡ g k (get_or old k 0)) → new ≡ tab n (λ j. g j (get_or old j 0))
placed_tab g n old {new} e s h = is_tab n (λ j. g j (get_or old j 0)) 0 new (s ∙ e) (λ k l. h k (subst (λ m. k < m) (sym e) l))
