-- How an answer becomes what a caller in another language gets, and that two outcomes which a contract allows are the same.
use mathlib.Core.Path.{◌≡◌, refl, sym, ◌∙◌}
use mathlib.Core.List.{List, []}
use Prim.Native.Nat.{ℕ}
use native.Mathlib.Omega.{arith}
use Rattle.std.specs.Prelude.{Result, Ok, Err, ⊤}
use Rattle.refusals.specs.Arguments.{Asked}
use Rattle.refusals.specs.Judgement.{Told}
use Rattle.refusals.specs.Answers.{said, Lent, tells, Call}
use Rattle.refusals.specs.declared.Refusal.{Refusal}
use Rattle.refusals.specs.declared.Refusal.TheVariants.{Length, Coefficient, Differs, InverseOfZero, NoJob}
use Rattle.galmuriec_c.specs.Boundary.{status, Reports, Leaves, Delivers}

-- ---- the end of a call, for search: from what the call behind it promises of its answer
pub delivered : (args : List Asked) (g u t : Told) (s : ℕ) (refusal : List ℕ) (old new : ℕ) → Call args g u [] [] → Delivers u s refusal old new
    → t ≡ tells args g → Delivers t s refusal old new
delivered args g u t s refusal old new c f e = rw (e, ← c.answered) f

pub left_behind : (args : List Asked) (g u t : Told) (s : ℕ) (refusal : List ℕ) (lent : List Lent) (new : List (List ℕ)) → Call args g u lent new
    → Reports u s refusal → t ≡ tells args g → Leaves t s refusal lent new
left_behind args g u t s refusal lent new c f e = rw e (record { reports = rw (← c.answered) f; buffers = c.buffers })

-- ---- two outcomes that a contract allows are the same
pub reports-one : (t : Told) (s s' : ℕ) (l l' : List ℕ) → Reports t s l → Reports t s' l' → (s ≡ s') × (l ≡ l')
reports-one t s s' l l' f g = (f.returned ∙ sym g.returned, f.recorded ∙ sym g.recorded)

pub leaves_one : (t : Told) (s s' : ℕ) (l l' : List ℕ) (lent : List Lent) (new new' : List (List ℕ)) → Leaves t s l lent new
    → Leaves t s' l' lent new' → (s ≡ s') × (l ≡ l') × (new ≡ new')
leaves_one t s s' l l' lent new new' f g =
    let r = reports-one t s s' l l' f.reports g.reports in
    (r.0, r.1, f.buffers ∙ sym g.buffers)

pub delivers_one : (t : Told) (s s' : ℕ) (l l' : List ℕ) (old new new' : ℕ) → Delivers t s l old new → Delivers t s' l' old new'
    → (s ≡ s') × (l ≡ l') × (new ≡ new')
delivers_one t s s' l l' old new new' f g =
    let r = reports-one t s s' l l' f.reports g.reports in
    (r.0, r.1, f.number ∙ sym g.number)

-- ---- 0 is returned exactly where the call is done
pub zero_done : (v : Result ⊤ Refusal) → status (said v) ≡ 0 → v ≡ Ok tt
unfolding status
zero_done (Ok done) e = refl
zero_done (Err (Length a)) e = absurd (omega (arith, e))
zero_done (Err (Coefficient a i)) e = absurd (omega (arith, e))
zero_done (Err Differs) e = absurd (omega (arith, e))
zero_done (Err InverseOfZero) e = absurd (omega (arith, e))
zero_done (Err NoJob) e = absurd (omega (arith, e))
