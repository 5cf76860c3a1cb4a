-- `store` puts eight bytes: digit i of x in base 256 is its byte i.
use borrow.Author.Rules.{rules}
use native.Mathlib.Nat.{add-sub_cancel_left}
use mathlib.Core.Path.{◌≡◌, ◌∙◌}
use Rattle.std.specs.Int.{to_le_bytes}
use Rattle.std.proofs.Common.{w64}
use Rattle.codec.proofs.Layouts.{bytes_as, with_bytes}
use Rattle.codec.proofs.store.Goals as goal

-- by `bytes_as` a number that is x may be written in another way: an edit is refused for the bytes that it writes, not for how it makes them
pub returns : goal.returns
returns c =
    let made : c.to_le_bytes.result ≡ to_le_bytes w64 c.args.x = search (rules, bytes_as) in
    with_bytes _ _ _ _ _ c.requires (add-sub_cancel_left c.args.at 8) (c.copy_from_slice.ensures.after ∙ made)
