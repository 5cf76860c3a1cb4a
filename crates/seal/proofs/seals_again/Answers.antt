-- `seals_again` samples G, makes ga and the ciphertext, and compares.
use borrow.Author.Rules.{rules}
use mathlib.Core.Path.{◌≡◌, ap, ◌∙◌}
use mathlib.Core.List.{List}
use Prim.Native.Nat.{ℕ, ◌≤◌}
use native.Mathlib.Nat.{le_of_eq}
use lib.ListN.{length}
use lib.Seq.{take_all}
use Rattle.codec.specs.Sizes.{ciphertext_numbers}
use Rattle.packets.specs.Packets.{same}
use Rattle.seal.specs.Sealing.{combined, sealed}
use Rattle.seal.proofs.Compare.{compared}
use Rattle.seal.proofs.seals_again.Goals as goal

-- `take_all` lets the lists be lent in parts that are the whole: an edit that lends less is refused for what it leaves out, not for how it is written
pub returns : goal.returns
returns c =
    let key = c.args.key.now in
    let packet = c.args.packet.now in
    let g = c.sample_matrix.ensures in
    let ga = c.combine.ensures ∙ ap (λ (l : List ℕ). combined l key.left.numbers key.right.numbers) g in
    let made = c.put_ciphertext.ensures ∙ (λ t. sealed (g t) (ga t) packet.left.numbers packet.right.numbers c.args.payload.now) in
    let again = c.put_ciphertext.new.ciphertext in
    let lent = c.args.ciphertext.numbers.now in
    let again_size : length again ≡ 320 = search rules in
    let lent_size : length lent ≡ 320 = c.args.ciphertext.canonical.size in
    let again_fits : length again ≤ 320 = le_of_eq again_size in
    let lent_fits : length lent ≤ 320 = le_of_eq lent_size in
    let told : c.equal.result ≡ same ciphertext_numbers again lent = search (rules, compared, take_all) in
    told ∙ ap (λ (l : List ℕ). same ciphertext_numbers l lent) made
