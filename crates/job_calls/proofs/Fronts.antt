-- What stands at the front of a buffer: how `write` puts it there, and how it is told.
use mathlib.Core.Path.{◌≡◌, refl, sym, ap, ap₂, ◌∙◌, subst}
use mathlib.Core.List.{List, [], ◌∷◌, ◌++◌, append_assoc, append-nil}
use Prim.Native.Nat.{ℕ, suc, ◌+◌, ◌-◌, ◌≤◌, ◌<◌}
use native.Mathlib.Numerals.{add-one}
use native.Mathlib.Omega.{arith}
use lib.ListN.{length, get_or, drop, set, length-append}
use lib.Seq.{take_at, drop_at, drop-drop}
use borrow.Author.Tests.{le-leb, lt-leb}
use Rattle.std.specs.Int.{to_le_bytes}
use Rattle.std.proofs.Common.{w64}
use native.Mathlib.Nat.{div-one}
use Rattle.laws.proofs.Parts.{put}
use Rattle.laws.specs.Digits.{digit}
use Rattle.laws.specs.Lists.{tab, tab_from}
use Rattle.codec.specs.Layout.{bytes}
use Rattle.refusals.specs.Arguments.{Asked}
use Rattle.refusals.specs.Judgement.{Told, No, sign, gives, refuses, then, judged}
use Rattle.refusals.specs.Answers.{Lent, into, left as left-of, tells, Call}
use Rattle.packets.specs.Packets.{Opened, key, differs, opens, key_or}
use Rattle.kem_calls.specs.Verdict.{verdict}
use Rattle.job_calls.specs.Jobs.{Writes, fitted, written, ten}

-- two answers that a contract allows are the same, and so are the buffers
pub writes_one : (answer : List ℕ) (m n : ℕ) (old new new' : List ℕ) → Writes answer m old new → Writes answer n old new' → (m ≡ n) × (new ≡ new')
writes_one answer m n old new new' v w = (v.count ∙ sym w.count, v.buffer ∙ sym w.buffer)

pub fitted_yes : (answer old : List ℕ) → length answer ≤ length old → answer ++ drop (length answer) old ≡ fitted answer old
unfolding fitted
fitted_yes answer old h = simp (le-leb _ _ h)

pub fitted_no : (answer old : List ℕ) → length old < length answer → old ≡ fitted answer old
unfolding fitted
fitted_no answer old h = simp (lt-leb _ _ h)

-- ---- a part, put in its place
pub put_is : (k n : ℕ) (r r' old : List ℕ) → n ≡ length r → r' ≡ r → put k n r' old ≡ put k (length r) r old
put_is k n r r' old size e = rw (e, size) refl

-- ---- one byte and two parts behind it
size : (h : ℕ) (p q : List ℕ) → length p + 1 + length q ≡ length (h ∷ (p ++ q))
size h p q = simp (length-append) (omega arith)

two_parts : (h : ℕ) (p q rest : List ℕ)
    → put (suc (length p)) (length q) q (h ∷ (p ++ drop (length p) rest)) ≡ h ∷ ((p ++ q) ++ drop (length q) (drop (length p) rest))
two_parts h p q rest =
    let a = length p in
    ap₂ (λ (s t : List ℕ). h ∷ (s ++ (q ++ drop (length q) t))) (take_at p (drop a rest) a refl) (drop_at p (drop a rest) a refl)
    ∙ ap (λ (t : List ℕ). h ∷ t) (sym (append_assoc p q (drop (length q) (drop a rest))))

-- both, as `write` leaves them
laid : (h : ℕ) (p q old : List ℕ) → length p + 1 + length q ≤ length old
    → put (length p + 1) (length q) q (put 1 (length p) p (set old 0 h)) ≡ (h ∷ (p ++ q)) ++ drop (length (h ∷ (p ++ q))) old
laid h p q [] r = absurd (omega arith)
laid h p q (x ∷ rest) r =
    ap (λ (i : ℕ). put i (length q) q (h ∷ (p ++ drop (length p) rest))) (add-one (length p))
    ∙ two_parts h p q rest
    ∙ ap (λ (t : List ℕ). h ∷ ((p ++ q) ++ t)) (drop-drop (length q) (length p) rest ∙ ap (λ (k : ℕ). drop k rest) (sym (length-append p q)))

pub wrote : (h : ℕ) (p p' q q' old : List ℕ) → p' ≡ p → q' ≡ q → length p + 1 + length q ≤ length old
    → Writes (h ∷ (p ++ q)) (length p + 1 + length q) old
    (put (length p + 1) (length p + 1 + length q - (length p + 1)) q' (put 1 (length p + 1 - 1) p' (set old 0 h)))
wrote h p p' q q' old e f r =
    let first = put_is 1 (length p + 1 - 1) p p' (set old 0 h) (omega arith) e in
    let second = put_is (length p + 1) (length p + 1 + length q - (length p + 1)) q q' (put 1 (length p) p (set old 0 h)) (omega arith) f in
    record {
      count = size h p q;
      buffer = rw (first, second) (laid h p q old r ∙ fitted_yes (h ∷ (p ++ q)) old (omega (arith, size h p q)));
    }

pub no_room : (h : ℕ) (p q old : List ℕ) → length old < length p + 1 + length q → Writes (h ∷ (p ++ q)) (length p + 1 + length q) old old
no_room h p q old r = record { count = size h p q; buffer = fitted_no (h ∷ (p ++ q)) old (omega (arith, size h p q)) }

-- ---- what a call answered
-- a refusal, written by its parts
place_bytes : (i : ℕ) → to_le_bytes w64 i ≡ bytes (i ∷ [])
unfolding bytes tab tab_from digit
place_bytes i = rw (div-one i) refl

pub writes_ten : (n a i k : ℕ) (r : No) (place old new : List ℕ) → sign n a i ≡ r → place ≡ to_le_bytes w64 i
    → Writes (n ∷ ((a ∷ []) ++ place)) k old new → Writes (ten r) k old new
unfolding ten
writes_ten n a i k r place old new e f w =
    rw (← e) (subst (λ (l : List ℕ). Writes (n ∷ ((a ∷ []) ++ l)) k old new) (f ∙ place_bytes i) w)

-- what is given, where nothing is told against it, is what was filled
pub two_filled : (t u : Told) (b b' : Lent) (new new' : List ℕ) → u ≡ t → new ∷ new' ∷ [] ≡ left-of t (b ∷ b' ∷ [])
    → written u (new ++ new') ≡ written t (b.result ++ b'.result)
unfolding written
two_filled (gives xs) u b b' new new' e f = rw e (ap (λ (l : List (List ℕ)). 0 ∷ (get_or l 0 [] ++ get_or l 1 [])) f)
two_filled (refuses r) u b b' new new' e f = rw e

pub writes_two : (args : List Asked) (given u : Told) (first first' result result' filled filled' answer : List ℕ) (n : ℕ) (old new : List ℕ)
    → Call args given u (into first result ∷ into first' result' ∷ []) (filled ∷ filled' ∷ [])
    → Writes (written u (filled ++ filled')) n old new → answer ≡ written (tells args given) (result ++ result') → Writes answer n old new
writes_two args given u first first' result result' filled filled' answer n old new c w e =
    let same = two_filled (tells args given) u (into first result) (into first' result') filled filled' c.answered c.buffers in
    rw (e, ← same) w

-- the same where one buffer was filled, and by an opening: where there is no key its old content is not told
pub key-written : (t : Told) (o : Opened) (a b : List ℕ) → written (then t (verdict o)) (key_or o a) ≡ written (then t (verdict o)) (key_or o b)
unfolding written verdict opens key_or
key-written t (key k) a b = refl
key-written (gives xs) differs a b = refl
key-written (refuses r) differs a b = refl

pub one_filled : (t u : Told) (b : Lent) (new : List ℕ) → u ≡ t → new ∷ [] ≡ left-of t (b ∷ []) → written u (new ++ []) ≡ written t b.result
unfolding written
one_filled (gives xs) u b new e f = rw e (ap (λ (s : List ℕ). 0 ∷ s) (append-nil new ∙ ap (λ (l : List (List ℕ)). get_or l 0 []) f))
one_filled (refuses r) u b new e f = rw e

pub writes_key : (args : List Asked) (o : Opened) (u : Told) (first filled answer : List ℕ) (n : ℕ) (old new : List ℕ)
    → Call args (verdict o) u (into first (key_or o first) ∷ []) (filled ∷ []) → Writes (written u (filled ++ [])) n old new
    → answer ≡ written (tells args (verdict o)) (key_or o []) → Writes answer n old new
writes_key args o u first filled answer n old new c w e =
    let same = one_filled (tells args (verdict o)) u (into first (key_or o first)) filled c.answered c.buffers in
    rw (e, ← key-written (judged args) o first [], ← same) w
