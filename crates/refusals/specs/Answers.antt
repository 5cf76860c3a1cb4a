-- The number and values of docs/SCHEME.md, "When a call says no", for each case of the answers, and the one promise of all public calls: what comes
-- back, and what the lent buffers hold at the end.
use Rattle.std.specs.Prelude.{◌≡◌, List, [], ◌∷◌, ◌++◌, ℕ, Result, Ok, Err, ⊤, OnOk, codes, decimal}
use Rattle.refusals.specs.Arguments.{Asked, Each}
use Rattle.refusals.specs.Judgement.{Told, No, sign, gives, refuses, fine, then, judged}
use Rattle.refusals.specs.declared.Refusal.{Refusal}
use Rattle.refusals.specs.declared.Refusal.TheVariants.{Length, Coefficient, Differs, InverseOfZero, NoJob}

abbrev pub paper : Refusal → No
paper (Length a) = sign 1 a 0
paper (Coefficient a i) = sign 2 a i
paper Differs = sign 3 0 0
paper InverseOfZero = sign 4 1 0
paper NoJob = sign 5 0 0

-- a refusal, printed
abbrev pub sentence : No → List ℕ
sentence r =
    codes "refusal " ++ (decimal r.number ++ (codes ", argument " ++ (decimal r.argument ++ (codes ", place " ++ decimal r.place))))

-- ---- what an answer of each type tells
abbrev pub said : Result ⊤ Refusal → Told
said (Ok done) = fine
said (Err r) = refuses (paper r)

abbrev pub told : Result ℕ Refusal → Told
told (Ok x) = gives (x ∷ [])
told (Err r) = refuses (paper r)

abbrev pub told_two : Result (ℕ × ℕ) Refusal → Told
told_two (Ok xs) = gives (xs.0 ∷ xs.1 ∷ [])
told_two (Err r) = refuses (paper r)

-- ---- a judging function
-- answers as the arguments are judged, and where it refuses nothing each of them is as asked
pub record Judges (args : List Asked) (r : Result ⊤ Refusal) : Type 0 where
  pub answered : said r ≡ judged args
  pub as_asked : OnOk r (Each args)

-- ---- the lent buffers
-- a buffer that holds old, to be filled with result
pub record Lent : Type 0 where
  pub old : List ℕ
  pub result : List ℕ

abbrev pub into : List ℕ → List ℕ → Lent
into old result = record { old = old; result = result }

abbrev pub olds : List Lent → List (List ℕ)
olds [] = []
olds (b ∷ lent) = b.old ∷ olds lent

-- what they hold at the end of a call that tells t: a refusal leaves all as they were
abbrev pub held : Told → List ℕ → List ℕ → List ℕ
held (gives xs) old new = new
held (refuses r) old new = old

abbrev pub left : Told → List Lent → List (List ℕ)
left t [] = []
left t (b ∷ lent) = held t b.old b.result ∷ left t lent

-- ---- the promise
-- what is told by a call with these arguments, which tells `given` where nothing is wrong with them
abbrev pub tells : List Asked → Told → Told
tells args given = then (judged args) given

-- it answers so, and leaves `new` in the lent buffers
pub record Call (args : List Asked) (given answer : Told) (lent : List Lent) (new : List (List ℕ)) : Type 0 where
  pub answered : answer ≡ tells args given
  pub buffers : new ≡ left (tells args given) lent

-- one that fills a buffer,
abbrev pub Fills : List Asked → Result ⊤ Refusal → List ℕ → List ℕ → List ℕ → Type 0
Fills args r old new result = Call args fine (said r) (into old result ∷ []) (new ∷ [])

-- fills two,
abbrev pub FillsTwo : List Asked → Result ⊤ Refusal → List ℕ → List ℕ → List ℕ → List ℕ → List ℕ → List ℕ → Type 0
FillsTwo args r old new result old' new' result' = Call args fine (said r) (into old result ∷ into old' result' ∷ []) (new ∷ new' ∷ [])

-- gives a number,
abbrev pub Gives : List Asked → Result ℕ Refusal → ℕ → Type 0
Gives args r x = Call args (gives (x ∷ [])) (told r) [] []

-- gives two,
abbrev pub GivesTwo : List Asked → Result (ℕ × ℕ) Refusal → ℕ → ℕ → Type 0
GivesTwo args r x y = Call args (gives (x ∷ y ∷ [])) (told_two r) [] []

-- or gives a number and fills a buffer
abbrev pub GivesAndFills : List Asked → Result ℕ Refusal → ℕ → List ℕ → List ℕ → List ℕ → Type 0
GivesAndFills args r x old new result = Call args (gives (x ∷ [])) (told r) (into old result ∷ []) (new ∷ [])
