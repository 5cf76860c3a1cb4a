-- The coefficients of a public key's bytes, a ciphertext in bytes, and the two ends of `dec`.
use mathlib.Core.Path.{◌≡◌, refl, sym, ap, subst}
use Rattle.std.specs.Prelude.{Option, Some, None}
use mathlib.Core.List.{List, [], ◌∷◌}
use Prim.Native.Nat.{ℕ, zero, suc}
use native.Mathlib.Omega.{arith}
use lib.ListN.{length, drop, replicate, length-drop}
use lib.Seq.{take_all}
use Rattle.laws.specs.Lists.{tab, tab_from, zeros}
use Rattle.field.specs.Field.{Coefficients}
use Rattle.codec.specs.Layout.{words}
use Rattle.codec.specs.Sizes.{public_key_bytes}
use Rattle.refusals.specs.Arguments.{Asked}
use Rattle.refusals.specs.Judgement.{refuses, sign, judged, fine}
use Rattle.refusals.specs.Answers.{into, Call}
use Rattle.refusals.proofs.Calls.{done}
use Rattle.lanes.specs.Samplers.{ones}
use Rattle.packets.specs.Packets.{Opened, key_or, dec}
use Rattle.packets.specs.Keys.{key_in}
use Rattle.packets.proofs.Keys.{opens_with, opens-not}
use Rattle.packets.specs.Layout.{public_of}
use Rattle.kem_calls.specs.Verdict.{verdict}

pub ga-good : (pk : List ℕ) → length pk ≡ public_key_bytes → Coefficients 256 (words (drop 32 pk)) → Coefficients 256 (public_of pk).ga
unfolding public_of
ga-good pk h c = subst (λ (l : List ℕ). Coefficients 256 (words l)) (sym (take_all 2048 (drop 32 pk) (omega (arith, length-drop 32 pk)))) c

-- ---- a ciphertext as numbers s, which are those that its bytes hold
pub key_as : (sk s t : List ℕ) (k : Option (List ℕ)) → s ≡ t → k ≡ key_in (dec ones sk s) → k ≡ key_in (dec ones sk t)
key_as sk s t k e f = rw (← e) f

-- ---- there is a key
pub opens_done : (args : List Asked) (o : Opened) (k old new : List ℕ) → fine ≡ judged args
    → Some k ≡ key_in o → new ≡ k → Call args (verdict o) fine (into old (key_or o old) ∷ []) (new ∷ [])
unfolding verdict
opens_done args o k old new e f n =
    let both = opens_with o k old f in
    done args _ _ _ _ e (rw (← both.0)) (rw (← both.0, n, both.1))

-- ---- there is none, and the buffer is as it was
pub opens_not : (args : List Asked) (o : Opened) (old new : List ℕ) → fine ≡ judged args
    → None ≡ key_in o → new ≡ old → Call args (verdict o) (refuses (sign 3 0 0)) (into old (key_or o old) ∷ []) (new ∷ [])
unfolding verdict
opens_not args o old new e f same =
    let told = sym (opens-not o old f).0 in
    done args _ _ _ _ e (rw told) (rw (told, same))

-- ---- a cleared key
zeros_from : (i n : ℕ) → replicate {A = ℕ} n 0 ≡ tab_from i n (λ j. 0)
unfolding tab_from
zeros_from i zero = refl
zeros_from i (suc n) = ap (λ (l : List ℕ). 0 ∷ l) (zeros_from (suc i) n)

pub cleared : (n m : ℕ) → n ≡ m → replicate {A = ℕ} n 0 ≡ zeros m
unfolding zeros tab
cleared n m e = rw e (zeros_from 0 m)
