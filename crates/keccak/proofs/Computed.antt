-- The permutation with rho's offsets and the round constants as numbers: worked examples are run on it, without the walk and the register.
use mathlib.Core.Path.{◌≡◌, refl, sym, ap, ap₂, ◌∙◌}
use mathlib.Core.List.{List, [], ◌∷◌}
use Prim.Native.Nat.{ℕ, zero, suc, ◌+◌, ◌*◌, ◌%◌, ◌<◌, ◌≤◌}
use native.Mathlib.Omega.{arith}
use lib.Bits.{bit_xor}
use lib.ListN.{get_or}
use mir.Syntax.{w64}
use Rattle.std.specs.Int.{rotate_left}
use Rattle.laws.specs.Lists.{tab}
use Rattle.laws.proofs.Lists.{tab_ext}
use Rattle.laws.proofs.Tests.{equal_at}
use Rattle.keccak.specs.Keccak.{offset}
use Rattle.keccak.specs.Lanes.{rot, theta, rotation, rho, pi, chi, moved, iota, round, rounds, keccak_p}
use Rattle.keccak.proofs.Constants.{numbers, constant_number}
use Rattle.keccak.proofs.Places.{source-at}
use Rattle.keccak.proofs.Rotations.{rotated}

-- 3.2.2, table 2, modulo 64
unfoldable pub offsets : List ℕ
offsets =
    0 ∷ 1 ∷ 62 ∷ 28 ∷ 27 ∷ 36 ∷ 44 ∷ 6 ∷ 55 ∷ 20 ∷ 3 ∷ 10 ∷ 43 ∷ 25 ∷ 39 ∷ 41 ∷ 45 ∷ 15 ∷ 21 ∷ 8 ∷ 18 ∷ 2 ∷ 61 ∷ 56 ∷ 14 ∷ []

rotation-lt : (i : ℕ) → rotation i < 64
unfolding rotation
rotation-lt i = omega arith

rotation-offset : (i : ℕ) → i < 25 → rotation i ≡ get_or offsets i 0
unfolding rotation offset offsets
rotation-offset = equal_at rotation (λ i. get_or offsets i 0) 25 tt

-- the lane that comes to (x, y), as the library turns it
pub lane_moved : (s d : List ℕ) (x y : ℕ) → x < 5 → y < 5
    → let i = (x + 3 * y) % 5 + 5 * x in
    rotate_left w64 (bit_xor (get_or s i 0) (get_or d (i % 5) 0)) (get_or offsets i 0) ≡ moved s d (x + 5 * y)
unfolding moved
lane_moved s d x y hx hy =
    let i = (x + 3 * y) % 5 + 5 * x in
    let v = bit_xor (get_or s i 0) (get_or d (i % 5) 0) in
    ap (rotate_left w64 v) (sym (rotation-offset i (omega arith))) ∙ rotated v (rotation i) (rotation-lt i)
    ∙ ap (λ (n : ℕ). rot (bit_xor (get_or s n 0) (get_or d (n % 5) 0)) (rotation n)) (source-at x y hx)

unfoldable pub turned : List ℕ → List ℕ
turned s = tab 25 (λ i. rot (get_or s i 0) (get_or offsets i 0))

rho_turned : (s : List ℕ) → rho s ≡ turned s
unfolding rho turned
rho_turned s = tab_ext 25 _ _ (λ i h. ap (rot (get_or s i 0)) (rotation-offset i h))

-- the first n rounds
unfoldable pub computed : ℕ → List ℕ → List ℕ
computed zero s = s
computed (suc n) s = iota (chi (pi (turned (theta (computed n s))))) (get_or numbers n 0)

rounds_computed : (n : ℕ) (s : List ℕ) → n ≤ 24 → rounds n s ≡ computed n s
unfolding rounds round computed
rounds_computed zero s h = refl
rounds_computed (suc n) s h =
    ap₂ (λ (x : List ℕ) (c : ℕ). iota (chi (pi x)) c)
    (rho_turned (theta (rounds n s)) ∙ ap (λ (x : List ℕ). turned (theta x)) (rounds_computed n s (omega arith)))
    (constant_number n (omega arith))

pub keccak_p_computed : (s : List ℕ) → keccak_p s ≡ computed 24 s
unfolding keccak_p
keccak_p_computed s = rounds_computed 24 s (omega arith)
