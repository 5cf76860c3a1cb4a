-- What a promise says of a call once its arguments are as asked, or once it is done.
use mathlib.Core.Path.{◌≡◌, sym, ap, ◌∙◌}
use mathlib.Core.List.{List, [], ◌∷◌}
use mathlib.Core.Logic.{inl, inr}
use Prim.Native.Nat.{ℕ}
use lib.ListN.{get_or}
use Rattle.refusals.specs.Arguments.{Asked, Each}
use Rattle.refusals.specs.Judgement.{Told, No, sign, refuses, fine, then, judged}
use Rattle.refusals.specs.Exactly.{Clean, OneOfThree}
use Rattle.refusals.specs.Answers.{said, Lent, into, left, Call}
use Rattle.refusals.specs.declared.Refusal.{Refusal}
use Rattle.std.specs.Prelude.{Result, Ok, Err, ⊤}
use Rattle.refusals.specs.declared.Refusal.TheVariants.{Differs}
use Rattle.refusals.proofs.Exactly.{exactly_0, one_of_three}
use Rattle.refusals.proofs.Calls.{said-one, each_clean}
use Rattle.demands.proofs.Table.{gives-refuses}

-- ---- answers, from what they tell
pub said_done : (r : Result ⊤ Refusal) → said r ≡ fine → r ≡ Ok tt
said_done r = said-one r (Ok tt)

pub said-differs : (r : Result ⊤ Refusal) → said r ≡ refuses (sign 3 0 0) → r ≡ Err Differs
said-differs r = said-one r (Err Differs)

-- ---- buffers, one by one
pub first-buffer : (s t : List (List ℕ)) → s ≡ t → get_or s 0 [] ≡ get_or t 0 []
first-buffer s t e = ap (λ (l : List (List ℕ)). get_or l 0 []) e

pub second-buffer : (s t : List (List ℕ)) → s ≡ t → get_or s 1 [] ≡ get_or t 1 []
second-buffer s t e = ap (λ (l : List (List ℕ)). get_or l 1 []) e

-- ---- every argument is as asked
module _ (args : List Asked) (given answer : Told) (lent : List Lent) (new : List (List ℕ)) (each : Each args)
    (call : Call args given answer lent new) where
  fine_so : judged args ≡ fine
  fine_so = (exactly_0 args).1 (each_clean args each)

  pub as_given : answer ≡ given
  as_given = call.answered ∙ ap (λ (t : Told). then t given) fine_so

  pub buffers-given : new ≡ left given lent
  buffers-given = call.buffers ∙ ap (λ (t : Told). left (then t given) lent) fine_so

pub filled : (args : List Asked) (r : Result ⊤ Refusal) (old new result : List ℕ) → Each args
    → Call args fine (said r) (into old result ∷ []) (new ∷ [])
    → (r ≡ Ok tt) × (new ≡ result)
filled args r old new result each call = (
  said_done r (as_given args fine (said r) _ _ each call),
  first-buffer _ _ (buffers-given args fine (said r) _ _ each call),
)

-- ---- the call is done
done_judged : (args : List Asked) (given : Told) → then (judged args) given ≡ fine → judged args ≡ fine
done_judged args given e = go (one_of_three args)
  where
    no : (n : No) → judged args ≡ refuses n → judged args ≡ fine
    no n j = gives-refuses [] n (sym e ∙ ap (λ (t : Told). then t given) j)

    go : OneOfThree args → judged args ≡ fine
    go (inl w) = no _ w.1
    go (inr (inl w)) = no _ w.2
    go (inr (inr j)) = j

pub done_clean : (args : List Asked) (r : Result ⊤ Refusal) (lent : List Lent) (new : List (List ℕ)) → r ≡ Ok tt → Call args fine (said r) lent new
    → Clean args × (new ≡ left fine lent)
done_clean args r lent new d call =
    let j : judged args ≡ fine = done_judged args fine (sym call.answered ∙ ap said d) in
    ((exactly_0 args).0 j, call.buffers ∙ ap (λ (t : Told). left (then t fine) lent) j)
