-- How many bytes reading or writing may say that it moved, of a buffer of m bytes. Which bytes come from or go to the system no contract can say.
use Rattle.std.specs.Prelude.{◌≡◌, ℕ, ◌≤◌, Result, IfOk}

-- at most m
abbrev pub Within : {E : Type 0} → ℕ → Result ℕ E → Type 0
Within m r = IfOk r (λ n. n ≤ m)

-- all m, and nothing less
abbrev pub Whole : {E : Type 0} → ℕ → Result ℕ E → Type 0
Whole m r = IfOk r (λ n. n ≡ m)
