-- What it is to answer an input of which a buffer holds the front.
use Rattle.std.specs.Prelude.{◌≡◌, List, ℕ, length, take}
use Rattle.job_calls.specs.Jobs.{job_answer, Writes}

-- the first n bytes of buf are as much of the input as buf has room for: all of it, or its front where it is longer
abbrev pub Holds : List ℕ → ℕ → List ℕ → Type 0
Holds buf n input = take (length buf) input ≡ take n buf

-- m bytes at the front of a lent buffer, which goes from old to new, answer every such input
pub record Answers (buf : List ℕ) (n m : ℕ) (old new : List ℕ) : Type 0 where
  pub each : (input : List ℕ) → Holds buf n input → Writes (job_answer input) m old new
