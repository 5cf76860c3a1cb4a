-- `begin_matrix` draws G's bytes up to the cut.
use native.Mathlib.Omega.{arith}
use lib.Seq.{length-take-le}
use Rattle.seal.specs.Sealing.{cut}
use Rattle.seal.proofs.Streams.{begins}
use Rattle.seal.proofs.begin_matrix.Goals as goal

pub returns : goal.returns
returns c =
    let made = c.derive_secret_vectors.ensures in
    let bytes = c.args.bytes.now in
    let lent = length-take-le cut bytes (omega (arith, c.told-bytes)) in
    (begins bytes _ lent c.told-bytes c.of-stream.ensures.0 c.of-stream.ensures.1 made.0 made.1, made.2)
