-- The causes of numbers 3 and 4: what `dec` and `inverse` tell once nothing is wrong with their arguments.
use mathlib.Core.Path.{◌≡◌, refl, sym, ap, ◌∙◌}
use mathlib.Core.List.{List, [], ◌∷◌}
use mathlib.Core.Logic.Iff
use mathlib.Core.Logic.{◌↔◌, ◌⊎◌, inl, inr}
use Prim.Native.Nat.{ℕ, ◌<◌}
use native.Mathlib.Nat.{eq-zero-or-pos}
use native.Mathlib.Omega.{arith}
use lib.ListN.{length}
use Rattle.codec.specs.Sizes.{ciphertext_numbers}
use Rattle.field.specs.Field.{P}
use Rattle.refusals.specs.Arguments.{Asked}
use Rattle.refusals.specs.Judgement.{No, sign, refuses}
use Rattle.refusals.specs.Exactly.{Clean}
use Rattle.refusals.specs.Inverses.{inverse_told}
use Rattle.refusals.specs.Asks as asks
use Rattle.refusals.proofs.Calls.{as_each}
use Rattle.refusals.proofs.Inverses.{told-zero, told-other}
use Rattle.lanes.specs.Samplers.{ones}
use Rattle.packets.specs.Packets.{Opened, key, differs, opens, dec}
use Rattle.packets.proofs.Opening.{differs_when}
use Rattle.kem_calls.specs.Verdict.{verdict}
use Rattle.demands.specs.Table.{never, Differs}
use Rattle.demands.proofs.Table.{Late, gives-refuses}

-- ---- number 3
verdict_three : (o : Opened) → (verdict o ≡ refuses (sign 3 0 0)) ↔ (o ≡ differs)
unfolding verdict opens
verdict_three (key k) = ((λ e. gives-refuses [] (sign 3 0 0) e), (λ e. ap (λ (o : Opened). verdict o) e))
verdict_three differs = ((λ e. refl), (λ e. refl))

verdict_only : (o : Opened) (n : No) → verdict o ≡ refuses n → n ≡ sign 3 0 0
unfolding verdict opens
verdict_only (key k) n e = gives-refuses [] n e
verdict_only differs n e = cc

pub verdict_late : (args : List Asked) (sk ct : List ℕ) → (Clean args → length ct ≡ ciphertext_numbers)
    → Late args (Differs sk ct) never (verdict (dec ones sk ct))
verdict_late args sk ct size = record {
  three = λ c. Iff.trans (verdict_three (dec ones sk ct)) (differs_when ones sk ct (size c));
  four = λ c. (
    (λ e. let z = ap (λ (n : No). n.number) (verdict_only (dec ones sk ct) (sign 4 1 0) e) in absurd (omega (arith, z))),
    (λ h. absurd h),
  );
  either = λ c n e. inl (verdict_only (dec ones sk ct) n e);
}

-- ---- number 4
inverse_four : (a : ℕ) → a < P → (inverse_told a ≡ refuses (sign 4 1 0)) ↔ (a ≡ 0)
inverse_four a l = (go (eq-zero-or-pos a), (λ z. rw z told-zero))
  where
    go : (a ≡ 0) ⊎ (0 < a) → inverse_told a ≡ refuses (sign 4 1 0) → a ≡ 0
    go (inl z) e = z
    go (inr h) e = let g = told-other a h l in gives-refuses (g.0 ∷ []) (sign 4 1 0) (sym g.1 ∙ e)

inverse_only : (a : ℕ) → a < P → (n : No) → inverse_told a ≡ refuses n → n ≡ sign 4 1 0
inverse_only a l n e = go (eq-zero-or-pos a)
  where
    go : (a ≡ 0) ⊎ (0 < a) → n ≡ sign 4 1 0
    go (inl z) = let q : refuses n ≡ refuses (sign 4 1 0) = sym e ∙ rw z told-zero in cc
    go (inr h) = let g = told-other a h l in gives-refuses (g.0 ∷ []) n (sym g.1 ∙ e)

pub inverse_late : (a : ℕ) → Late (asks.field_inverse a) never (a ≡ 0) (inverse_told a)
inverse_late a = record {
  three = λ c. (
    (λ e. let z = ap (λ (n : No). n.number) (inverse_only a (below c) (sign 3 0 0) e) in absurd (omega (arith, z))),
    (λ h. absurd h),
  );
  four = λ c. inverse_four a (below c);
  either = λ c n e. inr (inverse_only a (below c) n e);
}
  where
    below : Clean (asks.field_inverse a) → a < P
    below c = (as_each (asks.field_inverse a) c).0
