-- A normaliser of expressions of a commutative ring, sound over every one: two expressions with one normal form are equal.
-- `ring_eq R ρ e₁ e₂ refl : ev R ρ e₁ ≡ ev R ρ e₂`, where ρ lists the values of v 0, v 1, ..
use mathlib.Core.Path.{◌≡◌, refl, sym, ◌∙◌, ap}
use mathlib.Core.Bool.{Bool, true, false}
use mathlib.Core.List.{List, [], ◌∷◌}
use Prim.Native.Nat.{ℕ, zero, suc, ◌+◌, ◌*◌, ◌-◌}
use native.Mathlib.Nat.{add-suc, add-zero as n-add-zero, mul-suc, mul-zero as n-mul-zero}
use native.Mathlib.Omega.{arith}
use lib.Dec.{ltb, T}
use lib.ListN.{get_or}
use Rattle.laws.specs.Rings.{CRing}
use Rattle.laws.proofs.Monomials.{alike, alike_is, first}
use Rattle.laws.proofs.Rings.{ring, zero-add, add_left_comm, mul_left_comm, neg_add_cancel_left}
use Rattle.laws.proofs.Rings.{neg-zero, mul-zero, zero-mul, one-mul, add-mul}

pub data Ex : Type 0 where
  v : ℕ → Ex
  k : ℕ → Ex
  ◌:+◌ : Ex → Ex → Ex
  ◌:*◌ : Ex → Ex → Ex
  :-◌ : Ex → Ex

infixl 60 ◌:+◌
infixl 70 ◌:*◌
infix 80 :-◌
-- a normal form: a sum of terms, each (p - m) times a product of variables
pub data Normal : Type 0 where
  nil : Normal
  term : ℕ → ℕ → List ℕ → Normal → Normal

abbrev ins_to : Bool → ℕ → ℕ → List ℕ → List ℕ → List ℕ
ins_to true i x xs r = i ∷ x ∷ xs
ins_to false i x xs r = x ∷ r

abbrev ins : ℕ → List ℕ → List ℕ
ins i [] = i ∷ []
ins i (x ∷ xs) = ins_to (ltb i x) i x xs (ins i xs)

abbrev mmul : List ℕ → List ℕ → List ℕ
mmul [] ys = ys
mmul (x ∷ xs) ys = ins x (mmul xs ys)

abbrev mk : ℕ → ℕ → List ℕ → Normal → Normal
mk zero zero mo P = P
mk zero (suc m) mo P = term zero (suc m) mo P
mk (suc p) m mo P = term (suc p) m mo P

abbrev placed : Bool → Bool → ℕ → ℕ → List ℕ → ℕ → ℕ → List ℕ → Normal → Normal → Normal
placed true b p m mo p' m' mo' P r = mk ((p + p') - (m + m')) ((m + m') - (p + p')) mo' P
placed false true p m mo p' m' mo' P r = term p m mo (term p' m' mo' P)
placed false false p m mo p' m' mo' P r = term p' m' mo' r

abbrev add_term : ℕ → ℕ → List ℕ → Normal → Normal
add_term p m mo nil = term p m mo nil
add_term p m mo (term p' m' mo' P) = placed (alike mo mo') (first mo mo') p m mo p' m' mo' P (add_term p m mo P)

abbrev mul_term : ℕ → ℕ → List ℕ → Normal → Normal
mul_term p m mo nil = nil
mul_term p m mo (term p' m' mo' P) = add_term (p * p' + m * m') (p * m' + m * p') (mmul mo mo') (mul_term p m mo P)

abbrev padd : Normal → Normal → Normal
padd nil Q = Q
padd (term p m mo P) Q = add_term p m mo (padd P Q)

abbrev pmul : Normal → Normal → Normal
pmul nil Q = nil
pmul (term p m mo P) Q = padd (mul_term p m mo Q) (pmul P Q)

abbrev pneg : Normal → Normal
pneg nil = nil
pneg (term p m mo P) = term m p mo (pneg P)

abbrev pub norm : Ex → Normal
norm (v i) = term 1 0 (i ∷ []) nil
norm (k n) = mk n 0 [] nil
norm (a :+ b) = padd (norm a) (norm b)
norm (a :* b) = pmul (norm a) (norm b)
norm (:- a) = pneg (norm a)

module _ (R : CRing) where
  open R use {A, add as ◌⊕◌, mul as ◌⊗◌, neg as ⊖◌, 𝟘, 𝟙}

  infixl 60 ◌⊕◌
  infixl 70 ◌⊗◌
  infix 80 ⊖◌
  -- the numeral n of the ring; 1 is 𝟙 itself
  abbrev pub num : ℕ → A
  num zero = 𝟘
  num (suc zero) = 𝟙
  num (suc (suc n)) = num (suc n) ⊕ 𝟙

  abbrev pub ev : List A → Ex → A
  ev ρ (v i) = get_or ρ i 𝟘
  ev ρ (k n) = num n
  ev ρ (a :+ b) = ev ρ a ⊕ ev ρ b
  ev ρ (a :* b) = ev ρ a ⊗ ev ρ b
  ev ρ (:- a) = ⊖ (ev ρ a)

  i_one : 𝟙 ≡ 𝟘 ⊕ 𝟙
  i_one = simp ring

  i_add : (a b : A) → a ⊕ b ⊕ 𝟙 ≡ a ⊕ (b ⊕ 𝟙)
  i_add a b = simp ring

  i_mul : (a b : A) → a ⊗ b ⊕ a ≡ a ⊗ (b ⊕ 𝟙)
  i_mul a b = simp ring

  i_drop : (a b : A) → b ≡ (𝟘 ⊕ ⊖ 𝟘) ⊗ a ⊕ b
  i_drop a b = simp ring

  i_coadd : (a b c d : A) → (a ⊕ b) ⊕ ⊖ (c ⊕ d) ≡ (a ⊕ ⊖ c) ⊕ (b ⊕ ⊖ d)
  i_coadd a b c d = simp ring

  i_comul : (a b c d : A) → (a ⊗ b ⊕ c ⊗ d) ⊕ ⊖ (a ⊗ d ⊕ c ⊗ b) ≡ (a ⊕ ⊖ c) ⊗ (b ⊕ ⊖ d)
  i_comul a b c d = simp ring

  i_join : (a b m r : A) → (a ⊕ b) ⊗ m ⊕ r ≡ a ⊗ m ⊕ (b ⊗ m ⊕ r)
  i_join a b m r = simp ring

  i_termmul : (c d m n r : A) → c ⊗ d ⊗ (m ⊗ n) ⊕ c ⊗ m ⊗ r ≡ c ⊗ m ⊗ (d ⊗ n ⊕ r)
  i_termmul c d m n r = simp ring

  i_neg : (a b m r : A) → (b ⊕ ⊖ a) ⊗ m ⊕ ⊖ r ≡ ⊖ ((a ⊕ ⊖ b) ⊗ m ⊕ r)
  i_neg a b m r = simp ring

  i_var : (a : A) → (𝟙 ⊕ ⊖ 𝟘) ⊗ (a ⊗ 𝟙) ⊕ 𝟘 ≡ a
  i_var a = simp ring

  i_con : (a : A) → (a ⊕ ⊖ 𝟘) ⊗ 𝟙 ⊕ 𝟘 ≡ a
  i_con a = simp ring

  i_g : (a b c : A) → a ⊕ b ⊕ ⊖ b ⊕ ⊖ c ≡ a ⊕ ⊖ c
  i_g a b c = simp ring

  i_h : (a b c : A) → c ⊕ a ⊕ ⊖ b ⊕ ⊖ c ≡ a ⊕ ⊖ b
  i_h a b c =
      R.add_comm (c ⊕ a ⊕ ⊖ b) (⊖ c) ∙ ap (λ x. ⊖ c ⊕ x) (R.add_assoc c a (⊖ b)) ∙ neg_add_cancel_left R c (a ⊕ ⊖ b)

  num-suc : (n : ℕ) → num (suc n) ≡ num n ⊕ 𝟙
  num-suc zero = i_one
  num-suc (suc n) = refl

  num-add : (a b : ℕ) → num (a + b) ≡ num a ⊕ num b
  num-add a zero = rw n-add-zero (sym (R.add-zero (num a)))
  num-add a (suc b) =
      ap (λ n. num n) (add-suc a b) ∙ num-suc (a + b)
      ∙ ap (λ x. x ⊕ 𝟙) (num-add a b) ∙ i_add (num a) (num b) ∙ ap (λ x. num a ⊕ x) (sym (num-suc b))

  num-mul : (a b : ℕ) → num (a * b) ≡ num a ⊗ num b
  num-mul a zero = rw n-mul-zero (sym (mul-zero R (num a)))
  num-mul a (suc b) =
      ap (λ n. num n) (mul-suc a b) ∙ num-add (a * b) a
      ∙ ap (λ x. x ⊕ num a) (num-mul a b) ∙ i_mul (num a) (num b) ∙ ap (λ x. num a ⊗ x) (sym (num-suc b))

  co : ℕ → ℕ → A
  co p m = num p ⊕ ⊖ num m

  co_sub : (p m : ℕ) → co (p - m) (m - p) ≡ co p m
  unfolding co
  co_sub p m =
      let swap : (p - m) + m ≡ (m - p) + p = omega arith in
      let e : num (p - m) ⊕ num m ≡ num (m - p) ⊕ num p =
      sym (num-add (p - m) m) ∙ ap (λ n. num n) swap ∙ num-add (m - p) p in
      let f : num (p - m) ⊕ num m ⊕ ⊖ num m ⊕ ⊖ num (m - p) ≡ num (m - p) ⊕ num p ⊕ ⊖ num m ⊕ ⊖ num (m - p) =
      ap (λ x. x ⊕ ⊖ num m ⊕ ⊖ num (m - p)) e in
      sym (i_g (num (p - m)) (num m) (num (m - p))) ∙ f ∙ i_h (num p) (num m) (num (m - p))

  mon : List A → List ℕ → A
  mon ρ [] = 𝟙
  mon ρ (i ∷ is) = get_or ρ i 𝟘 ⊗ mon ρ is

  pev : List A → Normal → A
  pev ρ nil = 𝟘
  pev ρ (term p m mo P) = co p m ⊗ mon ρ mo ⊕ pev ρ P

  ins_ev : (ρ : List A) (i : ℕ) (xs : List ℕ) → mon ρ (ins i xs) ≡ get_or ρ i 𝟘 ⊗ mon ρ xs
  unfolding mon
  ins_ev ρ i [] = refl
  ins_ev ρ i (x ∷ xs) = go (ltb i x) (ins_ev ρ i xs)
    where
      go : (b : Bool) → mon ρ (ins i xs) ≡ get_or ρ i 𝟘 ⊗ mon ρ xs → mon ρ (ins_to b i x xs (ins i xs)) ≡ get_or ρ i 𝟘 ⊗ (get_or ρ x 𝟘 ⊗ mon ρ xs)
      go true e = refl
      go false e = ap (λ y. get_or ρ x 𝟘 ⊗ y) e ∙ mul_left_comm R (get_or ρ x 𝟘) (get_or ρ i 𝟘) (mon ρ xs)

  mmul_ev : (ρ : List A) (xs ys : List ℕ) → mon ρ (mmul xs ys) ≡ mon ρ xs ⊗ mon ρ ys
  unfolding mon
  mmul_ev ρ [] ys = sym (one-mul R (mon ρ ys))
  mmul_ev ρ (x ∷ xs) ys =
      ins_ev ρ x (mmul xs ys) ∙ ap (λ y. get_or ρ x 𝟘 ⊗ y) (mmul_ev ρ xs ys) ∙ sym (R.mul_assoc (get_or ρ x 𝟘) (mon ρ xs) (mon ρ ys))

  mk_ev : (ρ : List A) (p m : ℕ) (mo : List ℕ) (P : Normal) → pev ρ (mk p m mo P) ≡ co p m ⊗ mon ρ mo ⊕ pev ρ P
  unfolding pev co
  mk_ev ρ zero zero mo P = i_drop (mon ρ mo) (pev ρ P)
  mk_ev ρ zero (suc m) mo P = refl
  mk_ev ρ (suc p) m mo P = refl

  co_add : (p m p' m' : ℕ) → co (p + p') (m + m') ≡ co p m ⊕ co p' m'
  unfolding co
  co_add p m p' m' = (λ i. num-add p p' i ⊕ ⊖ num-add m m' i) ∙ (i_coadd (num p) (num p') (num m) (num m'))

  co_mul : (p m p' m' : ℕ) → co (p * p' + m * m') (p * m' + m * p') ≡ co p m ⊗ co p' m'
  unfolding co
  co_mul p m p' m' = (λ i. num-add (p * p') (m * m') i ⊕ ⊖ num-add (p * m') (m * p') i)
      ∙ (λ i. (num-mul p p' i ⊕ num-mul m m' i) ⊕ ⊖ (num-mul p m' i ⊕ num-mul m p' i)) ∙ (i_comul (num p) (num p') (num m) (num m'))

  add_term_ev : (ρ : List A) (p m : ℕ) (mo : List ℕ) (P : Normal) → pev ρ (add_term p m mo P) ≡ co p m ⊗ mon ρ mo ⊕ pev ρ P
  unfolding pev
  add_term_ev ρ p m mo nil = refl
  add_term_ev ρ p m mo (term p' m' mo' P) = go (alike mo mo') (first mo mo') (alike_is mo mo') (add_term_ev ρ p m mo P)
    where
      go : (a b : Bool) → (T a → mo ≡ mo') → pev ρ (add_term p m mo P) ≡ co p m ⊗ mon ρ mo ⊕ pev ρ P
          → pev ρ (placed a b p m mo p' m' mo' P (add_term p m mo P)) ≡ co p m ⊗ mon ρ mo ⊕ (co p' m' ⊗ mon ρ mo' ⊕ pev ρ P)
      go true b h e =
          mk_ev ρ ((p + p') - (m + m')) ((m + m') - (p + p')) mo' P
          ∙ rw (co_sub (p + p') (m + m'), co_add p m p' m', h tt) (i_join (co p m) (co p' m') (mon ρ mo') (pev ρ P))
      go false true h e = refl
      go false false h e = ap (λ x. co p' m' ⊗ mon ρ mo' ⊕ x) e ∙ add_left_comm R (co p' m' ⊗ mon ρ mo') (co p m ⊗ mon ρ mo) (pev ρ P)

  mul_term_ev : (ρ : List A) (p m : ℕ) (mo : List ℕ) (P : Normal) → pev ρ (mul_term p m mo P) ≡ co p m ⊗ mon ρ mo ⊗ pev ρ P
  unfolding pev
  mul_term_ev ρ p m mo nil = sym (mul-zero R (co p m ⊗ mon ρ mo))
  mul_term_ev ρ p m mo (term p' m' mo' P) =
      add_term_ev ρ (p * p' + m * m') (p * m' + m * p') (mmul mo mo') (mul_term p m mo P)
      ∙ (λ i. co_mul p m p' m' i ⊗ mmul_ev ρ mo mo' i ⊕ mul_term_ev ρ p m mo P i)
      ∙ i_termmul (co p m) (co p' m') (mon ρ mo) (mon ρ mo') (pev ρ P)

  padd_ev : (ρ : List A) (P Q : Normal) → pev ρ (padd P Q) ≡ pev ρ P ⊕ pev ρ Q
  unfolding pev
  padd_ev ρ nil Q = sym (zero-add R (pev ρ Q))
  padd_ev ρ (term p m mo P) Q =
      add_term_ev ρ p m mo (padd P Q) ∙ ap (λ x. co p m ⊗ mon ρ mo ⊕ x) (padd_ev ρ P Q)
      ∙ sym (R.add_assoc (co p m ⊗ mon ρ mo) (pev ρ P) (pev ρ Q))

  pmul_ev : (ρ : List A) (P Q : Normal) → pev ρ (pmul P Q) ≡ pev ρ P ⊗ pev ρ Q
  unfolding pev
  pmul_ev ρ nil Q = sym (zero-mul R (pev ρ Q))
  pmul_ev ρ (term p m mo P) Q =
      padd_ev ρ (mul_term p m mo Q) (pmul P Q) ∙ (λ i. mul_term_ev ρ p m mo Q i ⊕ pmul_ev ρ P Q i)
      ∙ sym (add-mul R (co p m ⊗ mon ρ mo) (pev ρ P) (pev ρ Q))

  pneg_ev : (ρ : List A) (P : Normal) → pev ρ (pneg P) ≡ ⊖ pev ρ P
  unfolding pev co
  pneg_ev ρ nil = sym (neg-zero R)
  pneg_ev ρ (term p m mo P) = ap (λ x. co m p ⊗ mon ρ mo ⊕ x) (pneg_ev ρ P) ∙ i_neg (num p) (num m) (mon ρ mo) (pev ρ P)

  sound : (ρ : List A) (e : Ex) → pev ρ (norm e) ≡ ev ρ e
  unfolding pev co mon
  sound ρ (v i) = i_var (get_or ρ i 𝟘)
  sound ρ (k n) = mk_ev ρ n 0 [] nil ∙ i_con (num n)
  sound ρ (a :+ b) = padd_ev ρ (norm a) (norm b) ∙ (λ i. sound ρ a i ⊕ sound ρ b i)
  sound ρ (a :* b) = pmul_ev ρ (norm a) (norm b) ∙ (λ i. sound ρ a i ⊗ sound ρ b i)
  sound ρ (:- a) = pneg_ev ρ (norm a) ∙ (λ i. ⊖ sound ρ a i)

  pub ring_eq : (ρ : List A) (e₁ e₂ : Ex) → norm e₁ ≡ norm e₂ → ev ρ e₁ ≡ ev ρ e₂
  ring_eq ρ e₁ e₂ h = sym (sound ρ e₁) ∙ ap (λ P. pev ρ P) h ∙ sound ρ e₂
