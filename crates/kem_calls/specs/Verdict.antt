-- What `dec` tells and leaves after the judgement: docs/SCHEME.md, "When a call says no", number 3.
use Rattle.std.specs.Prelude.{List, [], ◌∷◌, ℕ, Result, ⊤}
use Rattle.laws.specs.Choices.{pick}
use Rattle.refusals.specs.Arguments.{Asked}
use Rattle.refusals.specs.Judgement.{Told, refuses, sign, fine}
use Rattle.refusals.specs.Answers.{said, into, Call}
use Rattle.refusals.specs.declared.Refusal.{Refusal}
use Rattle.packets.specs.Packets.{Opened, opens, key_or}

-- nothing where there is a key, and that the ciphertext differs where there is none
unfoldable pub verdict : Opened → Told
verdict o = pick (opens o) fine (refuses (sign 3 0 0))

-- a call that opens, and fills a buffer with the key
abbrev pub Unseals : List Asked → Opened → Result ⊤ Refusal → List ℕ → List ℕ → Type 0
Unseals args o r old new = Call args (verdict o) (said r) (into old (key_or o old) ∷ []) (new ∷ [])
