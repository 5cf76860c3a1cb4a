-- The numbers below p as the ring F, in which the mathematics of this crate is done, and how lists of numbers stand for its elements.
use mathlib.Core.Path.{◌≡◌, refl, sym, ◌∙◌, ap, subst}
use mathlib.Core.List.{List, [], ◌∷◌}
use Prim.Native.Nat.{ℕ, ◌+◌, ◌*◌, ◌%◌, ◌<◌}
use native.Mathlib.Nat.{mod-lt, mod-eq_of_lt}
use lib.Dec.{lit<}
use lib.ListN.{length, get_or}
use lib.Seq.{ext_get_or}
use Rattle.laws.specs.Lists.{tab}
use Rattle.laws.specs.Rings.{CRing, poly, sum}
use Rattle.laws.proofs.Lists.{get_or-tab}
use Rattle.laws.proofs.Bounds.{tab_below}
use Rattle.laws.proofs.Residues.{mk, residues, mk_mod, mk_add, mk_mul}
use Rattle.laws.proofs.Sums.{poly_front}
use Rattle.field.specs.Field.{P, Coefficients}
use Rattle.ring.specs.Transform.{value}

pub p_pos : 0 < P
p_pos = lit< tt

abbrev pub F : CRing
F = residues P p_pos

-- the element of a number, and element j of a list
abbrev pub el : ℕ → F.A
el = mk P p_pos

abbrev pub co : List ℕ → ℕ → F.A
co cs j = el (get_or cs j 0)

-- a list given by its remainders
pub co_tab : (n : ℕ) (f : ℕ → ℕ) (k : ℕ) → k < n → co (tab n (λ i. f i % P)) k ≡ el (f k)
co_tab n f k h = ap (λ m. el m) (get_or-tab n (λ i. f i % P) 0 k h) ∙ mk_mod P p_pos (f k)

pub remainders : (n : ℕ) (f : ℕ → ℕ) → Coefficients n (tab n (λ k. f k % P))
remainders n f = tab_below P n (λ k. f k % P) p_pos (λ k l. mod-lt (f k) p_pos)

pub value_below : (x : ℕ) (cs : List ℕ) → value x cs < P
unfolding value
value_below x [] = p_pos
value_below x (c ∷ cs) = mod-lt (c + x * value x cs) p_pos

-- two lists of n canonical numbers with the same elements are the same
pub same : (n : ℕ) (a b : List ℕ) → Coefficients n a → Coefficients n b → ((j : ℕ) → j < n → co a j ≡ co b j) → a ≡ b
same n a b ca cb e = ext_get_or 0 a b (ca.size ∙ sym cb.size) (λ i l.
    sym (mod-eq_of_lt (ca.each i)) ∙ ap (λ (z : F.A). z.0) (e i (subst (λ m. i < m) ca.size l)) ∙ mod-eq_of_lt (cb.each i))

-- the value of a list is that of its polynomial
pub value_is : (x : ℕ) (cs : List ℕ) → el (value x cs) ≡ poly F (length cs) (co cs) (el x)
unfolding value poly sum
value_is x [] = refl
value_is x (c ∷ cs) =
    mk_mod P p_pos (c + x * value x cs) ∙ mk_add P p_pos c (x * value x cs)
    ∙ ap (λ w. F.add (el c) w) (mk_mul P p_pos x (value x cs) ∙ ap (λ w. F.mul (el x) w) (value_is x cs))
    ∙ sym (poly_front F (length cs) (co (c ∷ cs)) (el x))
