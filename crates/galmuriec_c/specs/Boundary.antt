-- What a caller in another language gets of what a call tells: a returned number, the refusal's record as three numbers, and the lent
-- buffers. docs/SCHEME.md, "When a call says no". CallC, FillsC, FillsTwoC, GivesC and UnsealsC are the calls' promises as a caller in C sees them.
use Rattle.std.specs.Prelude.{◌≡◌, List, [], ◌∷◌, ℕ}
use Rattle.refusals.specs.Arguments.{Asked}
use Rattle.refusals.specs.Judgement.{Told, gives, refuses, fine}
use Rattle.refusals.specs.Answers.{Lent, into, left, tells}
use Rattle.packets.specs.Packets.{Opened, key_or}
use Rattle.kem_calls.specs.Verdict.{verdict}

-- the refusal's number, 0 where there is none
unfoldable pub status : Told → ℕ
status (gives xs) = 0
status (refuses r) = r.number

-- number, argument and place, three zeros where there is no refusal
unfoldable pub entry : Told → List ℕ
entry (gives xs) = 0 ∷ 0 ∷ 0 ∷ []
entry (refuses r) = r.number ∷ r.argument ∷ r.place ∷ []

-- what stands where a number was asked for: a refusal leaves it as it was
unfoldable pub given : Told → ℕ → ℕ
given (gives []) old = old
given (gives (x ∷ xs)) old = x
given (refuses r) old = old

-- a call of which t is told returns r and leaves this refusal record,
pub record Reports (t : Told) (r : ℕ) (refusal : List ℕ) : Type 0 where
  pub returned : r ≡ status t
  pub recorded : refusal ≡ entry t

-- and these contents of the lent buffers,
pub record Leaves (t : Told) (r : ℕ) (refusal : List ℕ) (lent : List Lent) (new : List (List ℕ)) : Type 0 where
  pub reports : Reports t r refusal
  pub buffers : new ≡ left t lent

-- or turns a lent number from old to new
pub record Delivers (t : Told) (r : ℕ) (refusal : List ℕ) (old new : ℕ) : Type 0 where
  pub reports : Reports t r refusal
  pub number : new ≡ given t old

-- ---- the promises
abbrev pub CallC : List Asked → Told → ℕ → List ℕ → List Lent → List (List ℕ) → Type 0
CallC args given r refusal lent new = Leaves (tells args given) r refusal lent new

abbrev pub FillsC : List Asked → ℕ → List ℕ → List ℕ → List ℕ → List ℕ → Type 0
FillsC args r refusal old new result = CallC args fine r refusal (into old result ∷ []) (new ∷ [])

abbrev pub FillsTwoC : List Asked → ℕ → List ℕ → List ℕ → List ℕ → List ℕ → List ℕ → List ℕ → List ℕ → Type 0
FillsTwoC args r refusal old new result old' new' result' =
    CallC args fine r refusal (into old result ∷ into old' result' ∷ []) (new ∷ new' ∷ [])

abbrev pub GivesC : List Asked → ℕ → List ℕ → ℕ → ℕ → ℕ → Type 0
GivesC args r refusal old new x = Delivers (tells args (gives (x ∷ []))) r refusal old new

abbrev pub UnsealsC : List Asked → Opened → ℕ → List ℕ → List ℕ → List ℕ → Type 0
UnsealsC args o r refusal old new = CallC args (verdict o) r refusal (into old (key_or o old) ∷ []) (new ∷ [])
