-- The pigeonhole law: a function that keeps the numbers below n below n, and apart, meets each of them.
use mathlib.Core.Path.{◌≡◌, sym, ◌∙◌, subst}
use Prim.Native.Nat.{ℕ, zero, suc, ◌<◌}
use native.Mathlib.Nat.{not-suc-le-zero, lt_irrefl}
use native.Mathlib.Decide.{ℕ_discrete}
use native.Mathlib.Omega.{arith}

abbrev pub Inside : ℕ → (ℕ → ℕ) → Type 0
Inside n f = (i : ℕ) → i < n → f i < n

abbrev pub Apart : ℕ → (ℕ → ℕ) → Type 0
Apart n f = (i j : ℕ) → i < n → j < n → f i ≡ f j → i ≡ j

abbrev pub Meets : ℕ → (ℕ → ℕ) → ℕ → Type 0
Meets n f y = (i : ℕ) × (i < n) × (f i ≡ y)

-- a, where x is y, and b otherwise
abbrev redirect : {x y : ℕ} → Dec (x ≡ y) → ℕ → ℕ → ℕ
redirect (yes _) a b = a
redirect (no _) a b = b

-- one number fewer: what went to n goes to where n went
module _ (n : ℕ) (f : ℕ → ℕ) (inside : Inside (suc n) f) (apart : Apart (suc n) f) where
  abbrev g : ℕ → ℕ
  g i = redirect (ℕ_discrete (f i) n) (f n) (f i)

  -- a lower number does not go where n goes
  alone : (i : ℕ) → i < n → f i ≡ f n → ⊥
  alone i h e = lt_irrefl n (subst (λ (k : ℕ). k < n) (apart i n (omega arith) (omega arith) e) h)

  below : (v : ℕ) → v < suc n → (v ≡ n → ⊥) → v < n
  below v h ne = omega arith

  g_inside : Inside n g
  g_inside i h = go (ℕ_discrete (f i) n)
    where
      go : (d : Dec (f i ≡ n)) → redirect d (f n) (f i) < n
      go (yes e) = below (f n) (inside n (omega arith)) (λ q. alone i h (e ∙ sym q))
      go (no ne) = below (f i) (inside i (omega arith)) ne

  g_apart : Apart n g
  g_apart i j hi hj = go (ℕ_discrete (f i) n) (ℕ_discrete (f j) n)
    where
      go : (d : Dec (f i ≡ n)) (d' : Dec (f j ≡ n)) → redirect d (f n) (f i) ≡ redirect d' (f n) (f j) → i ≡ j
      go (yes e) (yes e') q = apart i j (omega arith) (omega arith) (e ∙ sym e')
      go (yes e) (no ne) q = absurd (alone j hj (sym q))
      go (no ne) (yes e) q = absurd (alone i hi q)
      go (no ne) (no ne') q = apart i j (omega arith) (omega arith) q

  one_more : ((y : ℕ) → y < n → Meets n g y) → (y : ℕ) → y < suc n → Meets (suc n) f y
  one_more met y h = go (ℕ_discrete (f n) y) (ℕ_discrete y n)
    where
      -- i meets y under g
      straight : (i : ℕ) → i < n → (d : Dec (f i ≡ n)) → redirect d (f n) (f i) ≡ y → Meets (suc n) f y
      straight i hi (yes e) q = (n, omega arith, q)
      straight i hi (no ne) q = (i, omega arith, q)

      -- y is n, and i meets f n under g
      swapped : (i : ℕ) → i < n → y ≡ n → (d : Dec (f i ≡ n)) → redirect d (f n) (f i) ≡ f n → Meets (suc n) f y
      swapped i hi e (yes q) _ = (i, omega arith, q ∙ sym e)
      swapped i hi e (no ne) q = absurd (alone i hi q)

      go : Dec (f n ≡ y) → Dec (y ≡ n) → Meets (suc n) f y
      go (yes e) _ = (n, omega arith, e)
      go (no ne) (yes e) =
          let m : Meets n g (f n) = met (f n) (below (f n) (inside n (omega arith)) (λ q. ne (q ∙ sym e))) in
          swapped m.0 m.1 e (ℕ_discrete (f m.0) n) m.2
      go (no ne) (no ny) =
          let m : Meets n g y = met y (below y h ny) in
          straight m.0 m.1 (ℕ_discrete (f m.0) n) m.2

pub onto : (n : ℕ) (f : ℕ → ℕ) → Inside n f → Apart n f → (y : ℕ) → y < n → Meets n f y
onto zero f inside apart y h = absurd (not-suc-le-zero h)
onto (suc n) f inside apart y h =
    one_more n f inside apart (onto n (g n f inside apart) (g_inside n f inside apart) (g_apart n f inside apart)) y h
