-- Four signed lanes as data: what they are worth modulo p and how large they are; their sums, negatives and products. With Y = 2^16 a coefficient
-- is a polynomial in Y, and Y⁴ = Y² - 1 modulo p, so that Y⁵ = Y³ - Y and Y⁶ = -1.
use mathlib.Core.Path.{◌≡◌, refl, sym, ◌∙◌}
use mathlib.Core.List.{[], ◌∷◌}
use Prim.Native.Nat.{ℕ, ◌+◌, ◌*◌, ◌-◌, ◌%◌, ◌^◌, ◌≤◌, ◌<◌}
use native.Mathlib.Nat.{mod-eq_of_lt}
use native.Mathlib.Omega.{arith}
use lib.Dec.{lit<}
use lib.IntN.{ℤ, pos, ◌+ℤ◌, ◌*ℤ◌, neg_ℤ}
use Rattle.laws.specs.Congruence.{Cong}
use Rattle.laws.specs.Integers.{residue}
use Rattle.laws.proofs.Congruence.{c_refl, c_eq, c_trans, c_sym, c_add, c_mul, c_neg}
use Rattle.laws.proofs.ModularSolver.{Quoted, mod_ring, at, lit, neg, ◌⊞◌, ◌⊠◌}
use Rattle.laws.proofs.Integers.{Sized, size-add, size-neg, size-mul, size_wider, residue_below}
use Rattle.laws.proofs.Integers.{Leaves, leaves_pos, leaves_cong, leaves_residue, leaves_one, leaves_add, leaves_neg, leaves_mul}
use Rattle.field.specs.Field.{P}
use Rattle.lanes.specs.FourLanes.{placed}
use Rattle.noise.specs.Noise.{Lanes}

pub record Four : Type 0 where
  pub l0 : ℤ
  pub l1 : ℤ
  pub l2 : ℤ
  pub l3 : ℤ

-- l0 + 2^16 l1 + 2^32 l2 + 2^48 l3
abbrev pub whole : Four → ℤ
whole e = e.l0 +ℤ pos (2 ^ 16) *ℤ e.l1 +ℤ pos (2 ^ 32) *ℤ e.l2 +ℤ pos (2 ^ 48) *ℤ e.l3

-- the same of their remainders
unfoldable pub worth : Four → ℕ
worth e = placed (residue P e.l0) (residue P e.l1) (residue P e.l2) (residue P e.l3)

p_positive : 0 < P
p_positive = lit< tt

self : (z : ℤ) → Leaves P z (residue P z)
self = leaves_residue p_positive

plus : {x y : ℤ} {a b : ℕ} → Leaves P x a → Leaves P y b → Leaves P (x +ℤ y) (a + b)
plus = leaves_add p_positive

times : (x y : ℤ) → Leaves P (x *ℤ y) (residue P x * residue P y)
times x y = leaves_mul p_positive (self x) (self y)

minus : {x : ℤ} {a : ℕ} → Leaves P x a → Leaves P (neg_ℤ x) (P - a % P)
minus {x} {a} p = leaves_neg p_positive (c_trans (c_eq swap) (c_neg a p_positive)) p
  where
    swap : a + (P - a % P) ≡ P - a % P + a
    swap = omega arith

pub leaves_worth : (e : Four) → Leaves P (whole e) (worth e)
unfolding worth
leaves_worth e = plus (plus (plus (self e.l0) (scaled (2 ^ 16) e.l1)) (scaled (2 ^ 32) e.l2)) (scaled (2 ^ 48) e.l3)
  where
    scaled : (n : ℕ) (z : ℤ) → Leaves P (pos n *ℤ z) (n * residue P z)
    scaled n z = leaves_mul p_positive (leaves_pos n) (self z)

-- four lanes and what each of them leaves
pub worth_of : {a b c d : ℕ} (e : Four) → Leaves P e.l0 a → Leaves P e.l1 b → Leaves P e.l2 c → Leaves P e.l3 d
    → Cong P (worth e) (placed a b c d)
unfolding worth
worth_of e p q r s =
    c_add (c_add (c_add (one p) (c_mul c_refl (one q))) (c_mul c_refl (one r))) (c_mul c_refl (one s))
  where
    one : {z : ℤ} {a : ℕ} → Leaves P z a → Cong P (residue P z) a
    one {z} p = leaves_one p_positive (self z) p

-- ---- sums, negatives, products
abbrev pub none : Four
none = record { l0 = pos 0; l1 = pos 0; l2 = pos 0; l3 = pos 0 }

abbrev pub add : Four → Four → Four
add e f = record { l0 = e.l0 +ℤ f.l0; l1 = e.l1 +ℤ f.l1; l2 = e.l2 +ℤ f.l2; l3 = e.l3 +ℤ f.l3 }

abbrev pub negative : Four → Four
negative e = record { l0 = neg_ℤ e.l0; l1 = neg_ℤ e.l1; l2 = neg_ℤ e.l2; l3 = neg_ℤ e.l3 }

abbrev pub mul : Four → Four → Four
mul e f = record {
  l0 = e.l0 *ℤ f.l0 +ℤ neg_ℤ (e.l1 *ℤ f.l3 +ℤ e.l2 *ℤ f.l2 +ℤ e.l3 *ℤ f.l1) +ℤ neg_ℤ (e.l3 *ℤ f.l3);
  l1 = e.l0 *ℤ f.l1 +ℤ e.l1 *ℤ f.l0 +ℤ neg_ℤ (e.l2 *ℤ f.l3 +ℤ e.l3 *ℤ f.l2);
  l2 = e.l0 *ℤ f.l2 +ℤ e.l1 *ℤ f.l1 +ℤ e.l2 *ℤ f.l0 +ℤ (e.l1 *ℤ f.l3 +ℤ e.l2 *ℤ f.l2 +ℤ e.l3 *ℤ f.l1);
  l3 = e.l0 *ℤ f.l3 +ℤ e.l1 *ℤ f.l2 +ℤ e.l2 *ℤ f.l1 +ℤ e.l3 *ℤ f.l0 +ℤ (e.l2 *ℤ f.l3 +ℤ e.l3 *ℤ f.l2);
}

-- four numbers in the solver's words, and the product of number i of the first four with number j of the next
abbrev pub quoted : Quoted → Quoted → Quoted → Quoted → Quoted
quoted a b c d = a ⊞ lit (2 ^ 16) ⊠ b ⊞ lit (2 ^ 32) ⊠ c ⊞ lit (2 ^ 48) ⊠ d

abbrev by : ℕ → ℕ → Quoted
by i j = at i ⊠ at (4 + j)

pub worth_add : (e f : Four) → Cong P (worth (add e f)) (worth e + worth f)
unfolding worth
worth_add e f =
    c_trans (worth_of (add e f) (sum e.l0 f.l0) (sum e.l1 f.l1) (sum e.l2 f.l2) (sum e.l3 f.l3))
    (c_eq (go (residue P e.l0) (residue P e.l1) (residue P e.l2) (residue P e.l3)
    (residue P f.l0) (residue P f.l1) (residue P f.l2) (residue P f.l3)))
  where
    sum : (x y : ℤ) → Leaves P (x +ℤ y) (residue P x + residue P y)
    sum x y = plus (self x) (self y)

    go : (a b c d a' b' c' d' : ℕ) → placed (a + a') (b + b') (c + c') (d + d') ≡ placed a b c d + placed a' b' c' d'
    go a b c d a' b' c' d' = omega arith

pub worth_negative : (e : Four) → Cong P (worth (negative e)) (P - worth e % P)
unfolding worth
worth_negative e =
    c_trans (worth_of (negative e) (minus (self e.l0)) (minus (self e.l1)) (minus (self e.l2)) (minus (self e.l3)))
    (record {
      same = mod_ring P p_positive (residue P e.l0 ∷ residue P e.l1 ∷ residue P e.l2 ∷ residue P e.l3 ∷ [])
          (quoted (neg (at 0)) (neg (at 1)) (neg (at 2)) (neg (at 3))) (neg (quoted (at 0) (at 1) (at 2) (at 3))) refl;
    })

pub worth_mul : (e f : Four) → Cong P (worth (mul e f)) (worth e * worth f)
unfolding worth
worth_mul e f =
    c_trans (worth_of (mul e f)
    (plus (plus (times e.l0 f.l0) (minus y4)) (minus (times e.l3 f.l3)))
    (plus (plus (times e.l0 f.l1) (times e.l1 f.l0)) (minus y5))
    (plus (plus (plus (times e.l0 f.l2) (times e.l1 f.l1)) (times e.l2 f.l0)) y4)
    (plus (plus (plus (plus (times e.l0 f.l3) (times e.l1 f.l2)) (times e.l2 f.l1)) (times e.l3 f.l0)) y5))
    (record {
      same = mod_ring P p_positive
          (residue P e.l0 ∷ residue P e.l1 ∷ residue P e.l2 ∷ residue P e.l3
          ∷ residue P f.l0 ∷ residue P f.l1 ∷ residue P f.l2 ∷ residue P f.l3 ∷ [])
          (quoted (by 0 0 ⊞ neg (by 1 3 ⊞ by 2 2 ⊞ by 3 1) ⊞ neg (by 3 3))
          (by 0 1 ⊞ by 1 0 ⊞ neg (by 2 3 ⊞ by 3 2))
          (by 0 2 ⊞ by 1 1 ⊞ by 2 0 ⊞ (by 1 3 ⊞ by 2 2 ⊞ by 3 1))
          (by 0 3 ⊞ by 1 2 ⊞ by 2 1 ⊞ by 3 0 ⊞ (by 2 3 ⊞ by 3 2)))
          (quoted (at 0) (at 1) (at 2) (at 3) ⊠ quoted (at 4) (at 5) (at 6) (at 7)) refl;
    })
  where
    -- what stands at Y⁴ and at Y⁵
    y4 : Leaves P (e.l1 *ℤ f.l3 +ℤ e.l2 *ℤ f.l2 +ℤ e.l3 *ℤ f.l1)
        (residue P e.l1 * residue P f.l3 + residue P e.l2 * residue P f.l2 + residue P e.l3 * residue P f.l1)
    y4 = plus (plus (times e.l1 f.l3) (times e.l2 f.l2)) (times e.l3 f.l1)

    y5 : Leaves P (e.l2 *ℤ f.l3 +ℤ e.l3 *ℤ f.l2) (residue P e.l2 * residue P f.l3 + residue P e.l3 * residue P f.l2)
    y5 = plus (times e.l2 f.l3) (times e.l3 f.l2)

-- ---- sizes
pub record Within (b : ℕ) (e : Four) : Type 0 where
  pub s0 : Sized e.l0 b
  pub s1 : Sized e.l1 b
  pub s2 : Sized e.l2 b
  pub s3 : Sized e.l3 b

pub within_wider : {a : ℕ} {e : Four} (b : ℕ) → a ≤ b → Within a e → Within b e
within_wider b h w = record { s0 = size_wider b h w.s0; s1 = size_wider b h w.s1; s2 = size_wider b h w.s2; s3 = size_wider b h w.s3 }

pub within-add : {b c : ℕ} {e f : Four} → Within b e → Within c f → Within (b + c) (add e f)
within-add w v = record { s0 = size-add w.s0 v.s0; s1 = size-add w.s1 v.s1; s2 = size-add w.s2 v.s2; s3 = size-add w.s3 v.s3 }

pub within_negative : {b : ℕ} {e : Four} → Within b e → Within b (negative e)
within_negative w = record { s0 = size-neg w.s0; s1 = size-neg w.s1; s2 = size-neg w.s2; s3 = size-neg w.s3 }

-- no lane of a product has more than six products of lanes
pub within-mul : {b c : ℕ} {e f : Four} → Within b e → Within c f → Within (6 * (b * c)) (mul e f)
within-mul {b} {c} {e} {f} w v = record {
  s0 = six (omega arith) (size-add (size-add (size-mul w.s0 v.s0) (size-neg y4)) (size-neg (size-mul w.s3 v.s3)));
  s1 = six (omega arith) (size-add (size-add (size-mul w.s0 v.s1) (size-mul w.s1 v.s0)) (size-neg y5));
  s2 = six (omega arith) (size-add (size-add (size-add (size-mul w.s0 v.s2) (size-mul w.s1 v.s1)) (size-mul w.s2 v.s0)) y4);
  s3 = six (omega arith) (size-add (size-add (size-add (size-add (size-mul w.s0 v.s3) (size-mul w.s1 v.s2))
      (size-mul w.s2 v.s1)) (size-mul w.s3 v.s0)) y5);
}
  where
    six : {z : ℤ} {a : ℕ} → a ≤ 6 * (b * c) → Sized z a → Sized z (6 * (b * c))
    six h s = size_wider (6 * (b * c)) h s

    -- what stands at Y⁴ and at Y⁵
    y4 : Sized (e.l1 *ℤ f.l3 +ℤ e.l2 *ℤ f.l2 +ℤ e.l3 *ℤ f.l1) (b * c + b * c + b * c)
    y4 = size-add (size-add (size-mul w.s1 v.s3) (size-mul w.s2 v.s2)) (size-mul w.s3 v.s1)

    y5 : Sized (e.l2 *ℤ f.l3 +ℤ e.l3 *ℤ f.l2) (b * c + b * c)
    y5 = size-add (size-mul w.s2 v.s3) (size-mul w.s3 v.s2)

-- ---- lanes of a number
pub record On (b : ℕ) (e : Four) (w : ℕ) : Type 0 where
  pub worths : Cong P (worth e) w
  pub within : Within b e

-- as the statement `Lanes` has it, and back
pub on_lanes : {b w : ℕ} (e : Four) → On b e w → Lanes b w
on_lanes {b} {w} e o = record {
  e0 = e.l0;
  e1 = e.l1;
  e2 = e.l2;
  e3 = e.l3;
  small0 = o.within.s0.size;
  small1 = o.within.s1.size;
  small2 = o.within.s2.size;
  small3 = o.within.s3.size;
  congruent =
      (c_trans (c_sym o.worths) (leaves_one p_positive (leaves_worth e) (self (whole e)))).same
      ∙ mod-eq_of_lt (residue_below p_positive (whole e));
}

abbrev pub four_of : {b w : ℕ} → Lanes b w → Four
four_of l = record { l0 = l.e0; l1 = l.e1; l2 = l.e2; l3 = l.e3 }

pub lanes_on : {b w : ℕ} (l : Lanes b w) → On b (four_of l) w
lanes_on {b} {w} l = record {
  worths = leaves_one p_positive (leaves_worth (four_of l)) (leaves_cong same_number (self n));
  within = record {
    s0 = record { size = l.small0 };
    s1 = record { size = l.small1 };
    s2 = record { size = l.small2 };
    s3 = record { size = l.small3 };
  };
}
  where
    n : ℤ
    n = whole (four_of l)

    same_number : Cong P w (residue P n)
    same_number = record { same = l.congruent ∙ sym (mod-eq_of_lt (residue_below p_positive n)) }

pub lanes_wider : {a w : ℕ} (b : ℕ) → a ≤ b → Lanes a w → Lanes b w
lanes_wider b h l = on_lanes (four_of l) (record { worths = (lanes_on l).worths; within = within_wider b h (lanes_on l).within })
