-- `add_byte` adds one byte into its lane.
use native.Mathlib.Omega.{arith}
use Rattle.hash.proofs.Copies.{xor_stored}
use Rattle.hash.proofs.add_byte.Goals as goal

pub returns : goal.returns
returns c =
    let args = c.args in
    xor_stored args.lanes.now args.at args.b c.from.result c.from.ensures (omega arith)
