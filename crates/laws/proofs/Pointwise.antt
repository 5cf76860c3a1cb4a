-- A set with sums and products that is read at n places in a ring, each place for itself, is a ring: its laws are those of the places.
use mathlib.Core.Path.{◌≡◌, sym, ◌∙◌, ap}
use Prim.Native.Nat.{ℕ, ◌<◌}
use Rattle.laws.specs.Rings.{CRing}

module _ (R : CRing) (n : ℕ) {E : Type 0} (add mul : E → E → E) (neg : E → E) (none one : E) (at : E → ℕ → R.A)
    (same : (a b : E) → ((r : ℕ) → r < n → at a r ≡ at b r) → a ≡ b)
    (at-add : (a b : E) (r : ℕ) → r < n → at (add a b) r ≡ R.add (at a r) (at b r))
    (at_mul : (a b : E) (r : ℕ) → r < n → at (mul a b) r ≡ R.mul (at a r) (at b r))
    (at-neg : (a : E) (r : ℕ) → r < n → at (neg a) r ≡ R.neg (at a r))
    (at_none : (r : ℕ) → r < n → at none r ≡ R.𝟘) (at_one : (r : ℕ) → r < n → at one r ≡ R.𝟙) where
  -- one operation is associative and commutative where the ring's is
  module _ (op : E → E → E) (at_op : R.A → R.A → R.A) (is : (a b : E) (r : ℕ) → r < n → at (op a b) r ≡ at_op (at a r) (at b r)) where
    assoc : ((x y z : R.A) → at_op (at_op x y) z ≡ at_op x (at_op y z)) → (a b c : E) → op (op a b) c ≡ op a (op b c)
    assoc law a b c = same _ _ (λ r h.
        is (op a b) c r h ∙ ap (λ w. at_op w (at c r)) (is a b r h) ∙ law (at a r) (at b r) (at c r)
        ∙ sym (is a (op b c) r h ∙ ap (λ w. at_op (at a r) w) (is b c r h)))

    comm : ((x y : R.A) → at_op x y ≡ at_op y x) → (a b : E) → op a b ≡ op b a
    comm law a b = same _ _ (λ r h. is a b r h ∙ law (at a r) (at b r) ∙ sym (is b a r h))

    unit : (e : E) (at-e : R.A) → ((r : ℕ) → r < n → at e r ≡ at-e) → ((x : R.A) → at_op x at-e ≡ x) → (a : E) → op a e ≡ a
    unit e at-e is-e law a = same _ _ (λ r h. is a e r h ∙ ap (λ w. at_op (at a r) w) (is-e r h) ∙ law (at a r))

  pub pointwise : CRing
  pointwise = record {
    A = E;
    add = add;
    mul = mul;
    neg = neg;
    𝟘 = none;
    𝟙 = one;
    add_assoc = assoc add R.add at-add R.add_assoc;
    add_comm = comm add R.add at-add R.add_comm;
    add-zero = unit add R.add at-add none R.𝟘 at_none R.add-zero;
    add_neg = λ a. same _ _ (λ r h.
        at-add a (neg a) r h ∙ ap (λ w. R.add (at a r) w) (at-neg a r h) ∙ R.add_neg (at a r) ∙ sym (at_none r h));
    mul_assoc = assoc mul R.mul at_mul R.mul_assoc;
    mul_comm = comm mul R.mul at_mul R.mul_comm;
    mul-one = unit mul R.mul at_mul one R.𝟙 at_one R.mul-one;
    mul-add = λ a b c. same _ _ (λ r h.
        at_mul a (add b c) r h ∙ ap (λ w. R.mul (at a r) w) (at-add b c r h) ∙ R.mul-add (at a r) (at b r) (at c r)
        ∙ sym (at-add (mul a b) (mul a c) r h ∙ (λ i. R.add (at_mul a b r h i) (at_mul a c r h i))));
  }
