-- `product` is multiplication modulo X^64 + 1 and p: it is what the plain product of two polynomials leaves, and nothing else is.
use mathlib.Core.Path.{◌≡◌, refl, sym, ◌∙◌, ap, subst}
use mathlib.Core.List.{List}
use mathlib.Core.Logic.{◌≢◌, ⊎_elim}
use Prim.Native.Nat.{ℕ, suc, ◌+◌, ◌*◌, ◌-◌, ◌≤◌, ◌<◌}
use native.Mathlib.Omega.{arith}
use lib.Dec.{lit<}
use lib.ListN.{length, get_or, get_or-eq_default}
use Rattle.laws.specs.Lists.{tab, tab_from}
use Rattle.laws.specs.Congruence.{Cong}
use Rattle.laws.proofs.Orders.{le_or_lt}
use Rattle.laws.proofs.Tests.{equal_at}
use Rattle.laws.proofs.Lists.{get_or-tab, length-tab}
use Rattle.laws.proofs.Rings.{add_cancel_left}
use Rattle.laws.proofs.Residues.{mk_eq, mk_same, mk_add, mk_mul, mk_total}
use Rattle.laws.proofs.Sums.{sum_ext}
use Rattle.laws.proofs.Convolution.{conv, conv_low, conv_none, conv_modulus_low, conv_modulus_high, descend}
use Rattle.field.specs.Field.{P, Coefficients}
use Rattle.ring.specs.Elements.{product, convolution, modulus, Remainder}
use Rattle.ring.proofs.Residue.{F, el, co, p_pos, same}
use Rattle.ring.proofs.Products.{product-canonical, product_is}

convolution_is : (a b : List ℕ) (m : ℕ) → el (convolution a b m) ≡ conv F (co a) (co b) m
unfolding convolution conv
convolution_is a b m =
    mk_total P p_pos (suc m) (λ i. get_or a i 0 * get_or b (m - i) 0)
    ∙ sum_ext F (suc m) _ (λ i. F.mul (co a i) (co b (m - i))) (λ i l. mk_mul P p_pos (get_or a i 0) (get_or b (m - i) 0))

past : (n : ℕ) (l : List ℕ) → length l ≡ n → (i : ℕ) → n ≤ i → co l i ≡ F.𝟘
past n l e i h = ap (λ x. el x) (get_or-eq_default l 0 (let g : length l ≤ i = omega arith in g))

modulus_else : (i : ℕ) → i ≢ 0 → i ≢ 64 → co modulus i ≡ F.𝟘
unfolding modulus tab tab_from
modulus_else i h g = ⊎_elim (λ l. past 65 modulus refl i l) (λ l.
    let e : i - 1 + 1 ≡ i = omega arith in
    ap (λ j. co modulus j) (sym e) ∙ ap (λ x. el x) (equal_at (λ j. get_or modulus (j + 1) 0) (λ j. 0) 63 tt (i - 1) (omega arith))) (le_or_lt 65 i)

module _ (q : List ℕ) where
  times-low : (m : ℕ) → m < 64 → conv F (co q) (co modulus) m ≡ co q m
  unfolding modulus tab tab_from
  times-low = conv_modulus_low F 64 (lit< tt) (co q) (co modulus) refl refl modulus_else

  times-high : (k : ℕ) → conv F (co q) (co modulus) (64 + k) ≡ F.add (co q k) (co q (64 + k))
  unfolding modulus tab tab_from
  times-high = conv_modulus_high F 64 (lit< tt) (co q) (co modulus) refl refl modulus_else

module _ (a b : List ℕ) (ca : Coefficients 64 a) (cb : Coefficients 64 b) where
  abbrev c : ℕ → F.A
  c = conv F (co a) (co b)

  c_low : (m : ℕ) → m < 64 → c m ≡ F.add (c (64 + m)) (co (product a b) m)
  c_low m h =
      conv_low F 64 (co a) (co b) (past 64 a ca.size) (past 64 b cb.size) m h ∙ ap (λ w. F.add (c (64 + m)) w) (sym (product_is a b cb m h))

  c_none : (k : ℕ) → 64 ≤ k → c (64 + k) ≡ F.𝟘
  c_none k h = conv_none F 64 (co a) (co b) (past 64 a ca.size) (past 64 b cb.size) (64 + k) (omega arith)

  -- the quotient: the coefficients past X^63
  high : List ℕ
  high = tab 64 (λ j. convolution a b (64 + j))

  high-ends : (i : ℕ) → 64 ≤ i → co high i ≡ F.𝟘
  unfolding high
  high-ends = past 64 high (length-tab 64 (λ i. convolution a b (64 + i)))

  high_is : (j : ℕ) → co high j ≡ c (64 + j)
  unfolding high
  high_is j =
      ⊎_elim (λ l. high-ends j l ∙ sym (c_none j l))
      (λ l. ap (λ x. el x) (get_or-tab 64 (λ i. convolution a b (64 + i)) 0 j l) ∙ convolution_is a b (64 + j)) (le_or_lt 64 j)

  -- coefficient m of the plain product, and of q times X^64 + 1 plus r
  abbrev Agrees : List ℕ → List ℕ → ℕ → Type 0
  Agrees q r m = c m ≡ F.add (conv F (co q) (co modulus) m) (co r m)

  agrees_congruent : (q r : List ℕ) (m : ℕ) → Agrees q r m → Cong P (convolution a b m) (convolution q modulus m + get_or r m 0)
  agrees_congruent q r m e = record {
    same = mk_same P p_pos (convolution a b m) (convolution q modulus m + get_or r m 0)
        (convolution_is a b m ∙ e
        ∙ sym (mk_add P p_pos (convolution q modulus m) (get_or r m 0) ∙ ap (λ w. F.add w (co r m)) (convolution_is q modulus m)));
  }

  congruent_agrees : (q r : List ℕ) (m : ℕ) → Cong P (convolution a b m) (convolution q modulus m + get_or r m 0) → Agrees q r m
  congruent_agrees q r m e =
      sym (convolution_is a b m) ∙ mk_eq P p_pos (convolution a b m) (convolution q modulus m + get_or r m 0) e.same
      ∙ mk_add P p_pos (convolution q modulus m) (get_or r m 0) ∙ ap (λ w. F.add w (co r m)) (convolution_is q modulus m)

  agrees : (m : ℕ) → Agrees high (product a b) m
  agrees m =
      ⊎_elim
      (λ l. let e : 64 + (m - 64) ≡ m = omega arith in subst (Agrees high (product a b)) e (above (m - 64)))
      (λ l. c_low m l ∙ ap (λ w. F.add w (co (product a b) m)) (sym (times-low high m l ∙ high_is m))) (le_or_lt 64 m)
    where
      above : (k : ℕ) → Agrees high (product a b) (64 + k)
      above k =
          sym ((λ i. F.add (times-high high k i) (past 64 (product a b) (product-canonical a b).size (64 + k) (omega arith) i))
          ∙ F.add-zero (F.add (co high k) (co high (64 + k)))
          ∙ (λ i. F.add (high_is k i) (high-ends (64 + k) (omega arith) i)) ∙ F.add-zero (c (64 + k)))

  -- the plain product of two polynomials is some polynomial times X^64 + 1, plus `product`, modulo p
  pub product_remainder : Remainder a b (product a b)
  product_remainder = record {
    quotient = high;
    canonical = product-canonical a b;
    congruent = λ m. agrees_congruent high (product a b) m (agrees m);
  }

  -- and no other list of 64 canonical numbers is left
  pub remainder_only : (r : List ℕ) → Remainder a b r → r ≡ product a b
  remainder_only r x = same 64 r (product a b) x.canonical (product-canonical a b) (λ m h.
      add_cancel_left F (c (64 + m)) (co r m) (co (product a b) m)
      (ap (λ w. F.add w (co r m)) (above m ∙ ap (λ w. F.add (co q m) w) (none (64 + m) (omega arith)) ∙ F.add-zero (co q m)
      ∙ sym (times-low q m h))
      ∙ sym (congruent_agrees q r m (x.congruent m)) ∙ c_low m h))
    where
      q : List ℕ
      q = x.quotient

      above : (k : ℕ) → c (64 + k) ≡ F.add (co q k) (co q (64 + k))
      above k =
          congruent_agrees q r (64 + k) (x.congruent (64 + k))
          ∙ (λ i. F.add (times-high q k i) (past 64 r x.canonical.size (64 + k) (omega arith) i)) ∙ F.add-zero (F.add (co q k) (co q (64 + k)))

      none : (i : ℕ) → 64 ≤ i → co q i ≡ F.𝟘
      none = descend F 64 (lit< tt) (co q) (λ i h. sym (above i) ∙ c_none i h) (length q) (λ i h. past (length q) q refl i (omega arith))
