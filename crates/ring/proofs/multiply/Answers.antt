-- `multiply` is the product in the ring, taken through the transforms.
use mathlib.Core.Path.{◌≡◌, ◌∙◌, sym}
use mathlib.Core.List.{List}
use Prim.Native.Nat.{ℕ, ◌<◌}
use native.Mathlib.Omega.{arith}
use lib.ListN.{length, get_or}
use lib.Seq.{ext_get_or}
use borrow.Author.Rules.{rules}
use Rattle.laws.proofs.Bounds.{below_as}
use Rattle.field.specs.Field.{Coefficients}
use Rattle.ring.specs.Transform.{transform}
use Rattle.ring.proofs.Transforms.{transform-canonical}
use Rattle.ring.proofs.Products.{hadamard-canonical, multiplied}
use Rattle.ring.proofs.multiply.Goals as goal

-- what a transform has made is canonical
made : (a : List ℕ) {b : List ℕ} → b ≡ transform a → Coefficients 64 b
made a e = below_as e (transform-canonical _)

-- each entry was taken from a list
copied : (l old : List ℕ) {new : List ℕ} → length l ≡ 64 → length old ≡ 64 → length new ≡ length old
    → ((k : ℕ) → k < length old → get_or new k 0 ≡ get_or l k 0) → new ≡ l
copied l old {new} h o s e = ext_get_or 0 new l (s ∙ o ∙ sym h) (λ k i. e k (omega (arith, s, i)))

pub stages-requires : goal.stages-requires
stages-requires c =
    let a = c.args in
    let e = c.each_place.ensures in
    below_as (copied a.lhs.now a.out.now c.requires.0.size c.requires.2 e.0 (λ k h. let p = e.1 k h in search rules)) c.requires.0

pub hadamard_assign-requires : goal.hadamard_assign-requires
hadamard_assign-requires c =
    (made _ c.stages.ensures, made _ c.stages-2.ensures)

pub coset_intt_noswap_64-requires : goal.coset_intt_noswap_64-requires
coset_intt_noswap_64-requires c = below_as c.hadamard_assign.ensures (hadamard-canonical _ _)

pub returns : goal.returns
returns c =
    let a = c.args in
    let e = c.each_place.ensures in
    let copy = copied a.lhs.now a.out.now c.requires.0.size c.requires.2 e.0 (λ k h. let p = e.1 k h in search rules) in
    search (rules, multiplied)
