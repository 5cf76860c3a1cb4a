-- `first_bad_packed` looks among the chunks, whose numbers are the numbers in the bytes.
use Prim.Native.Nat.{◌/◌}
use mathlib.Core.Path.{sym, ap, ◌∙◌}
use lib.ListN.{length}
use Rattle.std.specs.Prelude.{nat_le, position}
use Rattle.std.specs.Int.{from_le_bytes, w64}
use Rattle.std.specs.Simd.{first_chunks}
use Rattle.std.proofs.Common.{rules, tests}
use Rattle.std.proofs.lemmas.Iterator.{YieldsList-from_slice}
use Rattle.std.proofs.lemmas.Iterator.Search.{position_from_yields_List}
use Rattle.field.specs.Field.{P}
use Rattle.codec.proofs.Layouts.{words_of_chunks}
use Rattle.refusals.proofs.Leads.{position-map}
use Rattle.refusals.proofs.first_bad_packed.Goals as goal

pub returns : goal.returns
returns c =
    let s = c.args.s.now in
    let chunks = first_chunks 8 (length s / 8) s in
    position_from_yields_List (λ number. nat_le P (from_le_bytes w64 number)) _ _ _ c.position.ensures.ran
    (YieldsList-from_slice chunks (c.iter.ensures.rest ∙ c.as_chunks.ensures.front)) (λ x b q k. search (rules, tests))
    ∙ sym (position-map (from_le_bytes w64) (λ x. nat_le P x) chunks) ∙ ap (position (λ x. nat_le P x)) (words_of_chunks s)
