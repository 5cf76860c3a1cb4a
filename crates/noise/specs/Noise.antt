-- docs/SCHEME.md, "The three demands" and "Keys and packets": how large the lanes of a coefficient are, and what reading a message through noise
-- means.
use Rattle.std.specs.Prelude.{◌≡◌, List, ℕ, ◌%◌, ◌^◌, ◌≤◌, ◌<◌, ℤ, pos, ◌+ℤ◌, ◌*ℤ◌, nat_abs, get_or}
use Rattle.laws.specs.Lists.{Below}
use Rattle.laws.specs.Integers.{residue}
use Rattle.field.specs.Field.{P, Coefficients}
use Rattle.ring.specs.Elements.{plus, minus}
use Rattle.ring.specs.Matrices.{cell, ring_dot}
use Rattle.lanes.specs.Messages.{embed, extract}

-- w is congruent modulo p to e0 + 2^16 e1 + 2^32 e2 + 2^48 e3, with every e from -b to b
pub record Lanes (b w : ℕ) : Type 0 where
  pub e0 : ℤ
  pub e1 : ℤ
  pub e2 : ℤ
  pub e3 : ℤ
  pub small0 : nat_abs e0 ≤ b
  pub small1 : nat_abs e1 ≤ b
  pub small2 : nat_abs e2 ≤ b
  pub small3 : nat_abs e3 ≤ b
  pub congruent : w % P ≡ residue P (e0 +ℤ pos (2 ^ 16) *ℤ e1 +ℤ pos (2 ^ 32) *ℤ e2 +ℤ pos (2 ^ 48) *ℤ e3)

-- the largest size of lanes that never turn a bit
abbrev pub limit : ℕ
limit = 16381

-- whatever the payload of 32 bytes, noise w of which no lane is beyond b turns no bit of it
abbrev pub Harmless : ℕ → Type 0
Harmless b =
    (payload w : List ℕ) → Below 256 32 payload → Coefficients 64 w → ((k : ℕ) → k < 64 → Lanes b (get_or w k 0))
    → extract (plus 64 (embed payload) w) ≡ payload

-- b·c - d·a, of vectors of n ring elements: what an opening leaves beside the embedding
unfoldable pub noise : ℕ → List ℕ → List ℕ → List ℕ → List ℕ → List ℕ
noise n a b c d = minus 64 (ring_dot n (cell b) (cell c)) (ring_dot n (cell d) (cell a))

-- all that the samplers guarantee of its lanes, far past the limit
abbrev pub guaranteed : ℕ
guaranteed = 196608
