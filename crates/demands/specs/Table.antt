-- docs/SCHEME.md, "When a call says no": the table of refusals, row by row, about what a call tells. `the_table` of proofs/Table proves it.
use Rattle.std.specs.Prelude.{◌≡◌, List, ◌↔◌, ◌≢◌, ◌⊎◌, ℕ, ◌+◌, length, get_or}
use Rattle.lanes.specs.Samplers.{ones}
use Rattle.refusals.specs.Arguments.{Asked}
use Rattle.refusals.specs.Judgement.{Told, No, refuses, sign}
use Rattle.refusals.specs.Exactly.{Misfit, Bad, Clean}
use Rattle.packets.specs.Packets.{public_key, sealing, extracted}
use Rattle.job_calls.specs.Jobs.{keygen_job_bytes, enc_job_bytes, dec_job_bytes}

-- number, argument and place of the refusals of a call: there are no others
abbrev pub OfTable : No → Type 0
OfTable n = ((k : ℕ) × (n ≡ sign 1 (1 + k) 0)) ⊎ (((k : ℕ) × (i : ℕ) × (n ≡ sign 2 (1 + k) i)) ⊎ ((n ≡ sign 3 0 0) ⊎ (n ≡ sign 4 1 0)))

-- a call with these arguments, for which `Differs` is the cause of number 3 and `OfZero` that of number 4, tells `answer`; what its lent buffers
-- hold goes from `before` to `after`
pub record Tabled (args : List Asked) (Differs OfZero : Type 0) (answer : Told) (before after : List (List ℕ)) : Type 0 where
  -- a lent slice has not its allowed length: the lowest such argument, place 0
  pub exactly_1 : (k : ℕ) → (answer ≡ refuses (sign 1 (1 + k) 0)) ↔ Misfit args k
  -- a coefficient that must be canonical is p or more: the lowest such argument, and the index of its first such coefficient
  pub exactly_2 : (k i : ℕ) → (answer ≡ refuses (sign 2 (1 + k) i)) ↔ Bad args k i
  -- with all input good, the regenerated ciphertext differs
  pub exactly_3 : (answer ≡ refuses (sign 3 0 0)) ↔ (Clean args × Differs)
  -- the inverse of 0 is asked
  pub exactly_4 : (answer ≡ refuses (sign 4 1 0)) ↔ (Clean args × OfZero)
  pub no_other : (n : No) → answer ≡ refuses n → OfTable n
  -- every lent buffer then holds what it held before
  pub unchanged : (n : No) → answer ≡ refuses n → after ≡ before

-- what no call but `dec` refuses by number 3, or but `inverse` by number 4
abbrev pub never : Type 0
never = ⊥

-- the sealing of what is extracted, under the key's own public key, is another ciphertext
abbrev pub Differs : List ℕ → List ℕ → Type 0
Differs sk ct = sealing ones (public_key ones sk) (extracted ones sk ct) ≢ ct

-- ---- number 5, which a job is judged by first
-- n bytes, the first of them t
abbrev pub IsJob : ℕ → ℕ → List ℕ → Type 0
IsJob t n s = (length s ≡ n) × (get_or s 0 0 ≡ t)

-- it is empty, its first byte is not 1, 2 or 3, or its length is wrong
pub record NoJob (s : List ℕ) : Type 0 where
  pub no_keygen : IsJob 1 keygen_job_bytes s → ⊥
  pub no_enc : IsJob 2 enc_job_bytes s → ⊥
  pub no_dec : IsJob 3 dec_job_bytes s → ⊥
