-- What a public call may do, in terms of its contract as the language reads it off the source: `Asked` is what the call demands, `Learnt` what it
-- promises, `statement` that the compiled function meets both.
use Rattle.std.specs.Prelude.{◌≡◌, List, ℕ, length}
use mir.Syntax.{Callee}
use prog.Routine.{Env}
use prog.Wired.{Code, Wired}
use contract.Lifetimes.{Lfts}
use Rattle.std.specs.Borrow.{Bor, MutBor}
use denote.Triple.Clauses.{AtExit}
use borrow.Fn.Kinds.{ParamKind, ResultKind, Dens, In, Out, res_t, ended_of}
use borrow.Fn.Plain.{Known}
use borrow.Fn.Run.{Over}
use borrow.Fn.World.{World}

-- one outcome that the contract allows: what was lent, what is answered, and what the lent places hold after
pub record Outcome (n : ℕ) (ps : List (ParamKind n)) (r : ResultKind n) (Promise : Out n ps r) : Type 0 where
  pub lifetimes : Lfts n
  pub lent : Dens lifetimes ps
  pub answer : (res_t r lifetimes).Denot
  pub after : AtExit (ended_of n ps r) lifetimes
  pub allowed : Promise lifetimes lent answer after

-- the call always ends, with such an outcome, and demands nothing of what it is lent
pub record Total (n : ℕ) (ps : List (ParamKind n)) (r : ResultKind n) (name : Callee) (code : Code) (Demand : In n ps) (Promise : Out n ps r)
    (statement : Type 1 → Type 2) : Type 2 where
  pub ends : {M : Type 1} → statement M
  -- what a caller may count on, wherever the code stands (δ) and whatever calls it: the promise itself, of some answer and last contents
  pub with_outcome : (w : World) (δ γ : Env) (k : Callee) → Wired δ code → γ k ≡ δ name
      → Known w.𝓛 (Over w.𝓛 w.𝓜 w.𝓡 γ) n ps r Demand Promise k
  pub demands_nothing : (κs : Lfts n) (lent : Dens κs ps) → Demand κs lent

-- how long a lent slice is
abbrev pub size : Bor (List ℕ) → ℕ
size s = length s.now

-- the same of one that is lent to be written
abbrev pub size_mut : MutBor (List ℕ) → ℕ
size_mut s = length s.now
