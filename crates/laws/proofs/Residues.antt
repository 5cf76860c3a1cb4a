-- The numbers below m, for any m above 0, as a commutative ring; `mk` takes any number there and keeps sums and products.
use mathlib.Core.Path.{◌≡◌, refl, sym, ◌∙◌, ap}
use mathlib.Core.HLevel.{Σ_prop_path}
use Prim.Native.Nat.{ℕ, zero, suc, ◌+◌, ◌*◌, ◌-◌, ◌%◌, ◌^◌, ◌<◌}
use native.Mathlib.Nat.{mod-lt, mod-mod, mod-eq_of_lt, mod-add-mod, add-mod-mod, add_assoc, add_comm, add-zero, mul_comm}
use native.Mathlib.Nat.{mul_assoc, mul-one, mul-add, mod_self, add-sub_of_le, le_of_lt, zero-mod, pow-zero, pow-suc}
use native.Mathlib.Bridge.{le_prop}
use native.Mathlib.Omega.{arith}
use Rattle.laws.specs.Rings.{CRing, pow, sum}
use Rattle.laws.specs.Sums.{total}
use Rattle.laws.proofs.Congruence.{mul_mod_l, mul_mod_r}

module _ (m : ℕ) (pos : 0 < m) where
  abbrev pub Residue : Type 0
  Residue = (n : ℕ) × (n < m)

  abbrev pub mk : ℕ → Residue
  mk n = (n % m, mod-lt n pos)

  pub residue_path : {a b : Residue} → a.0 ≡ b.0 → a ≡ b
  residue_path {a} {b} e = Σ_prop_path (λ (n : ℕ). le_prop {n = suc n} {m = m}) {u = a} {v = b} e

  abbrev radd : Residue → Residue → Residue
  radd a b = mk (a.0 + b.0)

  abbrev rmul : Residue → Residue → Residue
  rmul a b = mk (a.0 * b.0)

  abbrev rneg : Residue → Residue
  rneg a = mk (m - a.0)

  abbrev pub residues : CRing
  residues = record {
    A = Residue;
    add = radd;
    mul = rmul;
    neg = rneg;
    𝟘 = mk 0;
    𝟙 = mk 1;
    add_assoc = λ a b c. residue_path (mod-add-mod (a.0 + b.0) m c.0 ∙ ap (λ x. x % m) (add_assoc a.0 b.0 c.0)
        ∙ sym (add-mod-mod a.0 (b.0 + c.0) m));
    add_comm = λ a b. residue_path (ap (λ x. x % m) (add_comm a.0 b.0));
    add-zero = λ a. residue_path (ap (λ x. (a.0 + x) % m) (zero-mod m) ∙ ap (λ x. x % m) (add-zero a.0) ∙ mod-eq_of_lt a.1);
    add_neg = λ a. residue_path (add-mod-mod a.0 (m - a.0) m ∙ ap (λ x. x % m) (add-sub_of_le (le_of_lt a.1)) ∙ mod_self m ∙ sym (zero-mod m));
    mul_assoc = λ a b c. residue_path (mul_mod_l m (a.0 * b.0) c.0 ∙ ap (λ x. x % m) (mul_assoc a.0 b.0 c.0)
        ∙ sym (mul_mod_r m a.0 (b.0 * c.0)));
    mul_comm = λ a b. residue_path (ap (λ x. x % m) (mul_comm a.0 b.0));
    mul-one = λ a. residue_path (mul_mod_r m a.0 1 ∙ ap (λ x. x % m) (mul-one a.0) ∙ mod-eq_of_lt a.1);
    mul-add = λ a b c. residue_path (mul_mod_r m a.0 (b.0 + c.0) ∙ ap (λ x. x % m) (mul-add a.0 b.0 c.0)
        ∙ sym (mod-add-mod (a.0 * b.0) m (a.0 * c.0 % m) ∙ add-mod-mod (a.0 * b.0) (a.0 * c.0) m));
  }

  -- two numbers with one remainder, and back
  pub mk_eq : (a b : ℕ) → a % m ≡ b % m → mk a ≡ mk b
  mk_eq a b e = residue_path e

  pub mk_same : (a b : ℕ) → mk a ≡ mk b → a % m ≡ b % m
  mk_same a b e = ap (λ (x : Residue). x.0) e

  pub mk_mod : (a : ℕ) → mk (a % m) ≡ mk a
  mk_mod a = mk_eq (a % m) a (mod-mod a m)

  pub mk_val : (a : Residue) → mk a.0 ≡ a
  mk_val a = residue_path (mod-eq_of_lt a.1)

  pub mk_add : (a b : ℕ) → mk (a + b) ≡ residues.add (mk a) (mk b)
  mk_add a b = residue_path (sym (mod-add-mod a m (b % m) ∙ add-mod-mod a b m))

  pub mk_mul : (a b : ℕ) → mk (a * b) ≡ residues.mul (mk a) (mk b)
  mk_mul a b = residue_path (sym (mul_mod_l m a (b % m) ∙ mul_mod_r m a b))

  -- m - a of a number a below m
  pub mk_sub : (a : ℕ) → a < m → mk (m - a) ≡ residues.neg (mk a)
  mk_sub a h = ap (λ (n : ℕ). mk (m - n)) (sym (mod-eq_of_lt h))

  -- a number that makes a a multiple of m
  pub mk_neg : (a b : ℕ) → (a + b) % m ≡ 0 → mk b ≡ residues.neg (mk a)
  mk_neg a b e = residue_path (
      let l : a % m < m = mod-lt a pos in
      let s : m - a % m + (a % m + b) ≡ b + m = omega arith in
      sym (
      ap (λ x. x % m) (sym (add-zero (m - a % m)))
      ∙ ap (λ x. (m - a % m + x) % m) (sym (mod-add-mod a m b ∙ e))
      ∙ add-mod-mod (m - a % m) (a % m + b) m
      ∙ ap (λ x. x % m) s
      ∙ sym (add-mod-mod b m m) ∙ ap (λ x. (b + x) % m) (mod_self m) ∙ ap (λ x. x % m) (add-zero b)))

  pub mk_total : (n : ℕ) (f : ℕ → ℕ) → mk (total n f) ≡ sum residues n (λ i. mk (f i))
  unfolding total sum
  mk_total zero f = refl
  mk_total (suc n) f = mk_add (total n f) (f n) ∙ ap (λ w. residues.add w (mk (f n))) (mk_total n f)

  pub mk_pow : (x e : ℕ) → mk (x ^ e) ≡ pow residues (mk x) e
  unfolding pow
  mk_pow x zero = ap (λ n. mk n) (pow-zero x)
  mk_pow x (suc e) = ap (λ n. mk n) (pow-suc x e) ∙ mk_mul (x ^ e) x ∙ ap (λ w. residues.mul w (mk x)) (mk_pow x e)
