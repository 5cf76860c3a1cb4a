-- Identities of sums, products and differences modulo a numeral m, by computing normal forms: `mod_ring`. An identity is quoted by hand:
-- `at 0`, `at 1`, .. are the numbers of a list, `lit k` a numeral, `rem a` is a % m and `neg a` is m - a % m. Coefficients are reduced modulo m
-- and may have any size. Example: u + z v and u - z v add up to twice u:
--   mod-ring m pos (u ∷ v ∷ z ∷ []) (rem (at 0 ⊞ rem (at 2 ⊠ at 1)) ⊞ rem (at 0 ⊞ neg (at 2 ⊠ at 1))) (lit 2 ⊠ at 0) refl
--
use mathlib.Core.Path.{◌≡◌, refl, sym, ap, ◌∙◌}
use mathlib.Core.Bool.{Bool, true, false}
use mathlib.Core.List.{List}
use Prim.Native.Nat.{ℕ, zero, suc, ◌+◌, ◌*◌, ◌-◌, ◌%◌, ◌<◌}
use native.Mathlib.Nat.{add-mul, zero-mul, zero-add, add_assoc, add_left_comm}
use native.Mathlib.Omega.{P, patom, plit, padd, pmul, val, mono, nth, Sum, none, more, total, flat, flat_sound, arith}
use lib.Dec.{T}
use Rattle.laws.specs.Congruence.{Cong}
use Rattle.laws.proofs.Congruence.{c_refl, c_trans, c_sym, c_add, c_mul, c_mod, c_eq, c_multiple, c_cancel, c_neg}
use Rattle.laws.proofs.Monomials.{alike, alike_is, first}

-- ---- a sum of monomials, sorted, with like ones collected; a monomial is the list of its variables
abbrev put : Bool → Bool → ℕ → List ℕ → ℕ → List ℕ → Sum → Sum → Sum
put true l k m j n s r = more (k + j) n s
put false true k m j n s r = more k m (more j n s)
put false false k m j n s r = more j n r

abbrev insert : ℕ → List ℕ → Sum → Sum
insert k m none = more k m none
insert k m (more j n s) = put (alike m n) (first m n) k m j n s (insert k m s)

abbrev collect : Sum → Sum
collect none = none
collect (more k m s) = insert k m (collect s)

put_is : (b l : Bool) (k : ℕ) (m : List ℕ) (j : ℕ) (n : List ℕ) (s r : Sum) (ρ : List ℕ) → (T b → m ≡ n) → total r ρ ≡ k * mono m ρ + total s ρ
    → total (put b l k m j n s r) ρ ≡ k * mono m ρ + (j * mono n ρ + total s ρ)
put_is true l k m j n s r ρ e h =
    ap (λ (t : ℕ). t + total s ρ) (add-mul k j (mono n ρ)) ∙ add_assoc (k * mono n ρ) (j * mono n ρ) (total s ρ)
    ∙ ap (λ (x : List ℕ). k * mono x ρ + (j * mono n ρ + total s ρ)) (sym (e tt))
put_is false true k m j n s r ρ e h = refl
put_is false false k m j n s r ρ e h = ap (λ (t : ℕ). j * mono n ρ + t) h ∙ add_left_comm (j * mono n ρ) (k * mono m ρ) (total s ρ)

insert_is : (k : ℕ) (m : List ℕ) (s : Sum) (ρ : List ℕ) → total (insert k m s) ρ ≡ k * mono m ρ + total s ρ
insert_is k m none ρ = refl
insert_is k m (more j n s) ρ = put_is (alike m n) (first m n) k m j n s (insert k m s) ρ (alike_is m n) (insert_is k m s ρ)

collect_is : (s : Sum) (ρ : List ℕ) → total (collect s) ρ ≡ total s ρ
collect_is none ρ = refl
collect_is (more k m s) ρ = insert_is k m (collect s) ρ ∙ ap (λ (t : ℕ). k * mono m ρ + t) (collect_is s ρ)

-- ---- coefficients modulo m; a monomial whose coefficient is 0 goes
abbrev keep : ℕ → List ℕ → Sum → Sum
keep zero n s = s
keep (suc k) n s = more (suc k) n s

keep_is : (k : ℕ) (n : List ℕ) (s : Sum) (ρ : List ℕ) → total (keep k n s) ρ ≡ k * mono n ρ + total s ρ
keep_is zero n s ρ = sym (ap (λ (t : ℕ). t + total s ρ) (zero-mul (mono n ρ)) ∙ zero-add (total s ρ))
keep_is (suc k) n s ρ = refl

abbrev reduce : ℕ → Sum → Sum
reduce m none = none
reduce m (more k n s) = keep (k % m) n (reduce m s)

reduce_is : (m : ℕ) (s : Sum) (ρ : List ℕ) → Cong m (total (reduce m s) ρ) (total s ρ)
reduce_is m none ρ = c_refl
reduce_is m (more k n s) ρ = c_trans (c_eq (keep_is (k % m) n (reduce m s) ρ)) (c_add (c_mul c_mod c_refl) (reduce_is m s ρ))

-- ---- what is quoted, what it stands for, and its normal form
pub data Quoted : Type 0 where
  at : ℕ → Quoted
  lit : ℕ → Quoted
  ◌⊞◌ : Quoted → Quoted → Quoted
  ◌⊠◌ : Quoted → Quoted → Quoted
  rem : Quoted → Quoted
  neg : Quoted → Quoted

infixl 6 ◌⊞◌
infixl 7 ◌⊠◌
abbrev pub worth : ℕ → List ℕ → Quoted → ℕ
worth m ρ (at i) = nth ρ i
worth m ρ (lit k) = k
worth m ρ (a ⊞ b) = worth m ρ a + worth m ρ b
worth m ρ (a ⊠ b) = worth m ρ a * worth m ρ b
worth m ρ (rem a) = worth m ρ a % m
worth m ρ (neg a) = m - worth m ρ a % m

-- a remainder is left out, and a difference from m is m - 1 times the number
abbrev strip : ℕ → Quoted → P
strip m (at i) = patom i
strip m (lit k) = plit k
strip m (a ⊞ b) = padd (strip m a) (strip m b)
strip m (a ⊠ b) = pmul (strip m a) (strip m b)
strip m (rem a) = strip m a
strip m (neg a) = pmul (plit (m - 1)) (strip m a)

minus_is : (m x : ℕ) → 0 < m → Cong m (m - x % m) ((m - 1) * x)
minus_is m x pos = c_cancel x pos (c_trans (c_neg x pos) (c_trans (c_sym (c_multiple x)) (c_eq (plain m x pos))))
  where
    by_one : (m x : ℕ) → 0 + x * suc m ≡ m * x + x
    by_one m x = omega arith

    plain : (m x : ℕ) → 0 < m → 0 + x * m ≡ (m - 1) * x + x
    plain zero x h = omega arith
    plain (suc m) x h =
        let e : suc m - 1 ≡ m = omega arith in
        by_one m x ∙ ap (λ (t : ℕ). t * x + x) (sym e)

strip_is : (m : ℕ) → 0 < m → (ρ : List ℕ) (a : Quoted) → Cong m (worth m ρ a) (val (strip m a) ρ)
strip_is m pos ρ (at i) = c_refl
strip_is m pos ρ (lit k) = c_refl
strip_is m pos ρ (a ⊞ b) = c_add (strip_is m pos ρ a) (strip_is m pos ρ b)
strip_is m pos ρ (a ⊠ b) = c_mul (strip_is m pos ρ a) (strip_is m pos ρ b)
strip_is m pos ρ (rem a) = c_trans c_mod (strip_is m pos ρ a)
strip_is m pos ρ (neg a) = c_trans (minus_is m (worth m ρ a) pos) (c_mul c_refl (strip_is m pos ρ a))

abbrev pub normal : ℕ → Quoted → Sum
normal m a = reduce m (collect (flat (strip m a)))

normal_is : (m : ℕ) → 0 < m → (ρ : List ℕ) (a : Quoted) → Cong m (worth m ρ a) (total (normal m a) ρ)
normal_is m pos ρ a =
    c_trans (strip_is m pos ρ a)
    (c_trans (c_eq (flat_sound (strip m a) ρ ∙ sym (collect_is (flat (strip m a)) ρ))) (c_sym (reduce_is m (collect (flat (strip m a))) ρ)))

pub mod_ring : (m : ℕ) → 0 < m → (ρ : List ℕ) (a b : Quoted) → normal m a ≡ normal m b → worth m ρ a % m ≡ worth m ρ b % m
mod_ring m pos ρ a b e =
    (normal_is m pos ρ a).same ∙ ap (λ (s : Sum). total s ρ % m) e ∙ sym (normal_is m pos ρ b).same
