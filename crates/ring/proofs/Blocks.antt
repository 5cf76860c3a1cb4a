-- What the loops of a stage do to the array: a butterfly at two places, t of them a block, m blocks a stage.
use mathlib.Core.Path.{◌≡◌, refl, sym, ◌∙◌, ap, subst}
use mathlib.Core.Bool.{Bool, true, false}
use mathlib.Core.List.{List}
use mathlib.Core.Logic.{⊎_elim}
use Prim.Native.Nat.{ℕ, ◌+◌, ◌*◌, ◌-◌, ◌/◌, ◌%◌, ◌≤◌, ◌<◌}
use native.Mathlib.Nat.{le_refl, mul-le-mul_right}
use native.Mathlib.Omega.{arith}
use native.Mathlib.Decide.{ℕ_discrete}
use borrow.Author.Tests.{lt-ltb, le-ltb}
use lib.Arith.{digits_div, digits_mod}
use lib.Dec.{ltb}
use lib.ListN.{length, get_or, set, length-set}
use lib.Seq.{get_or-set_same, get_or-set_other}
use Rattle.laws.specs.Lists.{tab}
use Rattle.laws.proofs.Orders.{le_or_lt}
use Rattle.laws.proofs.Updates.{Filled, mapped_none, mapped_all}
use Rattle.laws.proofs.Bounds.{mapped_below}
use Rattle.field.specs.Field.{P, Coefficients}
use Rattle.ring.specs.Stages.{Butterflied, stage_at}

module _ (f g : ℕ → ℕ → ℕ) (s t : ℕ) where
  pub butterflied_none : (l : List ℕ) → Butterflied f g s t s l l
  butterflied_none l = record {
    same_length = refl;
    low = λ p q r. absurd (omega arith);
    high = λ p q r. absurd (omega arith);
    before = λ p q. refl;
    between = λ p q r. refl;
    after = λ p q. refl;
  }

  -- one turn: the numbers at j and j + t become a and b
  module _ (j a b : ℕ) (old new : List ℕ) (from : s ≤ j) (to : j < s + t) (fits : j + t < length old) (x : Butterflied f g s t j old new)
      (ea : a ≡ f (get_or new j 0) (get_or new (j + t) 0)) (eb : b ≡ g (get_or new j 0) (get_or new (j + t) 0)) where
    abbrev made : List ℕ
    made = set (set new j a) (j + t) b

    at_low : get_or made j 0 ≡ f (get_or old j 0) (get_or old (j + t) 0)
    at_low =
        get_or-set_other (set new j a) (j + t) j b 0 (omega arith) ∙ get_or-set_same new j a 0 (omega (arith, x.same_length))
        ∙ ea ∙ (λ i. f (x.between j (omega arith) to i) (x.after (j + t) (omega arith) i))

    at_high : get_or made (j + t) 0 ≡ g (get_or old j 0) (get_or old (j + t) 0)
    at_high =
        get_or-set_same (set new j a) (j + t) b 0 (omega (arith, length-set new j a, x.same_length))
        ∙ eb ∙ (λ i. g (x.between j (omega arith) to i) (x.after (j + t) (omega arith) i))

    elsewhere : (p : ℕ) → (p ≡ j → ⊥) → (p ≡ j + t → ⊥) → get_or made p 0 ≡ get_or new p 0
    elsewhere p u w = get_or-set_other (set new j a) (j + t) p b 0 w ∙ get_or-set_other new j p a 0 u

    pub butterflied_more : Butterflied f g s t (j + 1) old made
    butterflied_more = record {
      same_length = length-set (set new j a) (j + t) b ∙ length-set new j a ∙ x.same_length;
      low = λ p q r. lows p q r (ℕ_discrete p j);
      high = λ p q r. highs p q r (ℕ_discrete p j);
      before = λ p q. elsewhere p (λ e. omega arith) (λ e. omega arith) ∙ x.before p q;
      between = λ p q r. elsewhere p (λ e. omega arith) (λ e. omega arith) ∙ x.between p (omega arith) r;
      after = λ p q. elsewhere p (λ e. omega arith) (λ e. omega arith) ∙ x.after p (omega arith);
    }
      where
        lows : (p : ℕ) → s ≤ p → p < j + 1 → Dec (p ≡ j) → get_or made p 0 ≡ f (get_or old p 0) (get_or old (p + t) 0)
        lows p q r (yes e) = subst (λ n. get_or made n 0 ≡ f (get_or old n 0) (get_or old (n + t) 0)) (sym e) at_low
        lows p q r (no e) = elsewhere p e (λ w. omega arith) ∙ x.low p q (omega arith)

        highs : (p : ℕ) → s ≤ p → p < j + 1 → Dec (p ≡ j) → get_or made (p + t) 0 ≡ g (get_or old p 0) (get_or old (p + t) 0)
        highs p q r (yes e) = subst (λ n. get_or made (n + t) 0 ≡ g (get_or old n 0) (get_or old (n + t) 0)) (sym e) at_high
        highs p q r (no e) = elsewhere (p + t) (λ w. omega arith) (λ w. omega arith) ∙ x.high p q (omega arith)

-- the loop of one block, with the zeta z, from s up to end, has come to j
pub record Turned (f g : ℕ → ℕ → ℕ → ℕ) (z s t end j : ℕ) (old new : List ℕ) : Type 0 where
  pub from : s ≤ j
  pub to : j ≤ end
  pub ends : end ≡ s + t
  pub fits : s + t + t ≤ 64
  pub canonical : Coefficients 64 old
  pub done : Butterflied (f z) (g z) s t j old new

pub turned_none : {f g : ℕ → ℕ → ℕ → ℕ} {z s t : ℕ} {l : List ℕ} → Coefficients 64 l → s + t + t ≤ 64 → Turned f g z s t (s + t) s l l
turned_none c h = record { from = omega arith; to = omega arith; ends = refl; fits = h; canonical = c; done = butterflied_none _ _ _ _ _ }

module _ {f g : ℕ → ℕ → ℕ → ℕ} {z s t end j : ℕ} {old new : List ℕ} (x : Turned f g z s t end j old new) where
  -- the two numbers of the next turn are not touched yet
  pub turned_low : j < end → get_or new j 0 < P
  turned_low h = rw (x.done.between j (le_refl j) (omega (arith, x.ends))) (x.canonical.each j)

  pub turned_high : j < end → get_or new (j + t) 0 < P
  turned_high h = rw (x.done.after (j + t) (le_refl (j + t))) (x.canonical.each (j + t))

  pub turned_more : {a b : ℕ} → j < end → a ≡ f z (get_or new j 0) (get_or new (j + t) 0) → b ≡ g z (get_or new j 0) (get_or new (j + t) 0)
      → Turned f g z s t end (j + 1) old (set (set new j a) (j + t) b)
  turned_more {a} {b} h ea eb = record {
    from = omega (arith, x.from);
    to = omega arith;
    ends = x.ends;
    fits = x.fits;
    canonical = x.canonical;
    done = butterflied_more (f z) (g z) s t j a b old new x.from (omega arith) (omega (arith, x.canonical.size)) x.done ea eb;
  }

  pub turned_all : j ≡ end → Butterflied (f z) (g z) s t (s + t) old new
  turned_all e = subst (λ n. Butterflied (f z) (g z) s t n old new) (e ∙ x.ends) x.done

module _ (f g : ℕ → ℕ → ℕ → ℕ) (table : ℕ → ℕ) (m t : ℕ) (old : List ℕ) where
  abbrev rule : ℕ → ℕ
  rule = stage_at f g table m t old

  -- the rule in block i: place r of the lower half, and of the upper
  pub rule_low : (i r : ℕ) → r < t → rule (i * (t + t) + r) ≡ f (table (m + i)) (get_or old (i * (t + t) + r) 0) (get_or old (i * (t + t) + r + t) 0)
  rule_low i r h =
      let l : r < t + t = omega arith in
      (λ k. elim (ltb (digits_mod i l k) t) as (λ b. ℕ) [
        | true ↦ f (table (m + digits_div i l k)) (get_or old (i * (t + t) + r) 0) (get_or old (i * (t + t) + r + t) 0)
        | false ↦ g (table (m + digits_div i l k)) (get_or old (i * (t + t) + r - t) 0) (get_or old (i * (t + t) + r) 0)
      ])
      ∙ simp (lt-ltb r t h)

  pub rule_high : (i r : ℕ) → r < t
      → rule (i * (t + t) + r + t) ≡ g (table (m + i)) (get_or old (i * (t + t) + r) 0) (get_or old (i * (t + t) + r + t) 0)
  rule_high i r h =
      let l : r + t < t + t = omega arith in
      let e : i * (t + t) + r + t ≡ i * (t + t) + (r + t) = omega arith in
      let o : i * (t + t) + r + t - t ≡ i * (t + t) + r = omega arith in
      let d : (i * (t + t) + r + t) / (t + t) ≡ i = ap (λ n. n / (t + t)) e ∙ digits_div i l in
      (λ k. elim (ltb ((ap (λ n. n % (t + t)) e ∙ digits_mod i l) k) t) as (λ b. ℕ) [
        | true ↦ f (table (m + d k)) (get_or old (i * (t + t) + r + t) 0) (get_or old (i * (t + t) + r + t + t) 0)
        | false ↦ g (table (m + d k)) (get_or old (o k) 0) (get_or old (i * (t + t) + r + t) 0)
      ])
      ∙ simp (le-ltb (r + t) t (let q : t ≤ r + t = omega arith in q))

  -- one block more
  stage_more : (i z : ℕ) (now new : List ℕ) → z ≡ table (m + i) → Filled rule (i * (t + t)) old now
      → Butterflied (f z) (g z) (i * (t + t)) t (i * (t + t) + t) now new → Filled rule ((i + 1) * (t + t)) old new
  stage_more i z now new e x b = record {
    same_length = b.same_length ∙ x.same_length;
    passed = λ p h. ⊎_elim (λ l. within p h l) (λ l. b.before p l ∙ x.passed p l) (le_or_lt (i * (t + t)) p);
    rest = λ p h. b.after p (omega arith) ∙ x.rest p (omega arith);
  }
    where
      lower : (r : ℕ) → r < t → get_or new (i * (t + t) + r) 0 ≡ rule (i * (t + t) + r)
      lower r h =
          b.low (i * (t + t) + r) (omega arith) (omega arith)
          ∙ (λ k. f (e k) (x.rest (i * (t + t) + r) (omega arith) k) (x.rest (i * (t + t) + r + t) (omega arith) k)) ∙ sym (rule_low i r h)

      upper : (r : ℕ) → r < t → get_or new (i * (t + t) + r + t) 0 ≡ rule (i * (t + t) + r + t)
      upper r h =
          b.high (i * (t + t) + r) (omega arith) (omega arith)
          ∙ (λ k. g (e k) (x.rest (i * (t + t) + r) (omega arith) k) (x.rest (i * (t + t) + r + t) (omega arith) k)) ∙ sym (rule_high i r h)

      within : (p : ℕ) → p < (i + 1) * (t + t) → i * (t + t) ≤ p → get_or new p 0 ≡ rule p
      within p h l = ⊎_elim
          (λ q.
          let e : i * (t + t) + (p - i * (t + t) - t) + t ≡ p = omega arith in
          subst (λ n. get_or new n 0 ≡ rule n) e (upper (p - i * (t + t) - t) (omega arith)))
          (λ q.
          let e : i * (t + t) + (p - i * (t + t)) ≡ p = omega arith in
          subst (λ n. get_or new n 0 ≡ rule n) e (lower (p - i * (t + t)) (omega arith)))
          (le_or_lt (i * (t + t) + t) p)

  stage_none : Filled rule (0 * (t + t)) old old
  stage_none = subst (λ n. Filled rule n old old) (let e : 0 ≡ 0 * (t + t) = omega arith in e) (mapped_none (λ j x. rule j) old)

  -- m blocks are the stage
  stage_all : (i : ℕ) (new : List ℕ) → i ≡ m → m * (t + t) ≡ 64 → length old ≡ 64 → Filled rule (i * (t + t)) old new → new ≡ tab 64 rule
  stage_all i new e size h x = mapped_all (λ j x. rule j) 64 old new h (subst (λ n. Filled rule n old new) (ap (λ k. k * (t + t)) e ∙ size) x)

-- m blocks of t + t numbers are 64 numbers: there are 32 blocks at most, block i fits, and so does its entry in the table
few_blocks : (m t : ℕ) → m * (t + t) ≡ 64 → m ≤ 32
few_blocks m t size =
    ⊎_elim (λ z. absurd (empty (let e : t ≡ 0 = omega arith in e))) (λ z. omega (arith, mul-le-mul_right m z)) (le_or_lt t 0)
  where
    empty : t ≡ 0 → ⊥
    empty e = let g : m * (0 + 0) ≡ 64 = subst (λ n. m * (n + n) ≡ 64) e size in omega arith

module _ (m t i : ℕ) (size : m * (t + t) ≡ 64) (h : i < m) where
  pub block_fits : i * (t + t) + t + t ≤ 64
  block_fits = omega (arith, mul-le-mul_right (t + t) h)

  pub entry-fits : m + i < 64
  entry-fits = omega (arith, few_blocks m t size)

-- ---- a stage of either transform, whose butterflies make canonical numbers
abbrev pub Canonical : (f g : ℕ → ℕ → ℕ → ℕ) → Type 0
Canonical f g = (z u w : ℕ) → (f z u w < P) × (g z u w < P)

-- so what a stage stores is canonical
pub stage_below : {f g : ℕ → ℕ → ℕ → ℕ} → Canonical f g → (table : ℕ → ℕ) (m t : ℕ) (l : List ℕ) (x : ℕ) → stage_at f g table m t l x < P
stage_below {f} {g} c table m t l x = go (ltb (x % (t + t)) t)
  where
    go : (b : Bool) → elim b as (λ y. ℕ) [
      | true ↦ f (table (m + x / (t + t))) (get_or l x 0) (get_or l (x + t) 0)
      | false ↦ g (table (m + x / (t + t))) (get_or l (x - t) 0) (get_or l x 0)
    ] < P
    go true = (c _ _ _).0
    go false = (c _ _ _).1

-- i of the m blocks are done
pub record Staged (f g : ℕ → ℕ → ℕ → ℕ) (table : ℕ → ℕ) (m t : ℕ) (old : List ℕ) (i : ℕ) (new : List ℕ) : Type 0 where
  pub size : m * (t + t) ≡ 64
  pub few : m ≤ 32
  pub canonical : Coefficients 64 old
  pub within : i ≤ m
  pub done : Filled (stage_at f g table m t old) (i * (t + t)) old new

pub staged_none : {f g : ℕ → ℕ → ℕ → ℕ} {table : ℕ → ℕ} {m t : ℕ} {old : List ℕ} → m * (t + t) ≡ 64 → Coefficients 64 old
    → Staged f g table m t old 0 old
staged_none {f} {g} {table} {m} {t} {old} e c = record {
  size = e;
  few = few_blocks m t e;
  canonical = c;
  within = omega arith;
  done = stage_none f g table m t old;
}

module _ {f g : ℕ → ℕ → ℕ → ℕ} {table : ℕ → ℕ} {m t : ℕ} {old : List ℕ} {i : ℕ} {now : List ℕ} (x : Staged f g table m t old i now) where
  pub staged_canonical : Canonical f g → Coefficients 64 now
  staged_canonical c = mapped_below (stage_below c table m t old) x.canonical x.done

  pub staged_room : i < m → i * (t + t) + t + t ≤ 64
  staged_room h = block_fits m t i x.size h

  -- one block more
  pub staged_more : {z : ℕ} {new : List ℕ} → i < m → z ≡ table (m + i)
      → Butterflied (f z) (g z) (i * (t + t)) t (i * (t + t) + t) now new → Staged f g table m t old (i + 1) new
  staged_more {z} {new} h e b = record {
    size = x.size;
    few = x.few;
    canonical = x.canonical;
    within = omega arith;
    done = stage_more f g table m t old i z now new e x.done b;
  }

  pub staged_all : Canonical f g → i ≡ m → (now ≡ tab 64 (stage_at f g table m t old)) × Coefficients 64 now
  staged_all c e = (stage_all f g table m t old i now e x.size x.canonical.size x.done, staged_canonical c)
