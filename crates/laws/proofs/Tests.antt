-- A computed test at every number below n, and what it proves at each of them. A table's rule is such a test over its places.
use mathlib.Core.Path.{◌≡◌, subst}
use mathlib.Core.Bool.{Bool, true, false}
use mathlib.Core.Logic.{⊎_elim}
use Prim.Native.Nat.{ℕ, zero, suc, ◌<◌}
use native.Mathlib.Nat.{not-suc-le-zero}
use native.Mathlib.Omega.{arith}
use lib.Dec.{T, eqb, eqb→eq}
use Rattle.laws.specs.Tests.{both, all}
use Rattle.laws.proofs.Orders.{le_or_lt}

pub both_left : (a b : Bool) → T (both a b) → T a
both_left true b t = tt
both_left false b t = t

pub both_right : (a b : Bool) → T (both a b) → T b
both_right true b t = t
both_right false b t = absurd t

pub all-at : (f : ℕ → Bool) (n : ℕ) → T (all f n) → (k : ℕ) → k < n → T (f k)
all-at f zero t k h = absurd (not-suc-le-zero h)
all-at f (suc n) t k h =
    ⊎_elim
    (λ l. let e : n ≡ k = omega arith in subst (λ (m : ℕ). T (f m)) e (both_left (f n) (all f n) t))
    (λ l. all-at f n (both_right (f n) (all f n) t) k l)
    (le_or_lt n k)

-- and the other way round
pub all_of : (f : ℕ → Bool) (n : ℕ) → ((k : ℕ) → k < n → T (f k)) → T (all f n)
all_of f zero h = tt
all_of f (suc n) h = go (f n) (all f n) (h n (omega arith)) (all_of f n (λ k l. h k (omega arith)))
  where
    go : (b c : Bool) → T b → T c → T (both b c)
    go true c x y = y
    go false c x y = absurd x

-- two functions that agree at 0, 1, .. , n - 1, by computing both
pub equal_at : (f g : ℕ → ℕ) (n : ℕ) → T (all (λ k. eqb (f k) (g k)) n) → (k : ℕ) → k < n → f k ≡ g k
equal_at f g n t k h = eqb→eq (f k) (g k) (all-at (λ k. eqb (f k) (g k)) n t k h)
