-- Examples that NIST publishes with FIPS 202, of the definitions on bits: worked out on the lanes, carried over by the proved equation.
-- The definitions on bits cannot be run themselves.
use mathlib.Core.Path.{◌≡◌, refl, sym, ap, ◌∙◌}
use mathlib.Core.List.{List, [], ◌∷◌}
use Prim.Native.Nat.{ℕ, ◌≤◌}
use native.Mathlib.Omega.{arith}
use Rattle.laws.specs.Lists.{tab, tab_from}
use Rattle.keccak.specs.Lanes.{rot, parity, parities, effect, effects, added, theta, pi, mixed, chi, iota, keccak_p}
use Rattle.keccak.proofs.Constants.{numbers}
use Rattle.keccak.proofs.Computed.{offsets, turned, computed, keccak_p_computed}
use Rattle.hash.specs.Fips202.{sha3_256, shake256}
use Rattle.hash.specs.Running.{byte_of, xor_byte, bytes_from, start, feed, closed, hashed}
use Rattle.hash.proofs.Cuts.{drawn_in}
use Rattle.hash.proofs.Blocks.{Bytes}
use Rattle.hash.proofs.Squeezed.{drawn_next}
use Rattle.hash.proofs.Hashes.{hashed_sha3_256, hashed-shake256}

nothing : Bytes []
nothing i = omega arith

-- the empty message with the suffix's byte b: one block, permuted once
abbrev block : ℕ → List ℕ
block b = (closed 136 start b).lanes

of_nothing : (b n : ℕ) → n ≤ 136 → hashed 136 b [] n ≡ bytes_from (computed 24 (block b)) 0 n
unfolding hashed feed closed
of_nothing b n h =
    drawn_next 136 (omega arith) (omega arith) n (block b) ∙ drawn_in 136 n 0 (keccak_p (block b)) (omega arith)
    ∙ ap (λ (l : List ℕ). bytes_from l 0 n) (keccak_p_computed (block b))

abbrev sha3_digest : List ℕ
sha3_digest =
    167 ∷ 255 ∷ 198 ∷ 248 ∷ 191 ∷ 30 ∷ 215 ∷ 102 ∷ 81 ∷ 193 ∷ 71 ∷ 86 ∷ 160 ∷ 97 ∷ 214 ∷ 98 ∷
    245 ∷ 128 ∷ 255 ∷ 77 ∷ 228 ∷ 59 ∷ 73 ∷ 250 ∷ 130 ∷ 216 ∷ 10 ∷ 75 ∷ 128 ∷ 248 ∷ 67 ∷ 74 ∷ []

sha3_256_empty : sha3_256 [] ≡ sha3_digest
unfolding closed bytes_from byte_of xor_byte computed numbers iota chi mixed pi turned offsets theta added
    effects effect parities parity rot tab tab_from
sha3_256_empty = sym (hashed_sha3_256 [] nothing) ∙ of_nothing 6 32 (omega arith) ∙ refl

-- the first 32 bytes
abbrev shake_output : List ℕ
shake_output =
    70 ∷ 185 ∷ 221 ∷ 43 ∷ 11 ∷ 168 ∷ 141 ∷ 19 ∷ 35 ∷ 59 ∷ 63 ∷ 235 ∷ 116 ∷ 62 ∷ 235 ∷ 36 ∷
    63 ∷ 205 ∷ 82 ∷ 234 ∷ 98 ∷ 184 ∷ 27 ∷ 130 ∷ 181 ∷ 12 ∷ 39 ∷ 100 ∷ 110 ∷ 213 ∷ 118 ∷ 47 ∷ []

shake256_empty : shake256 [] 32 ≡ shake_output
unfolding closed bytes_from byte_of xor_byte computed numbers iota chi mixed pi turned offsets theta added
    effects effect parities parity rot tab tab_from
shake256_empty = sym (hashed-shake256 [] 32 nothing) ∙ of_nothing 31 32 (omega arith) ∙ refl
