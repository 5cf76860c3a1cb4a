-- `permuted` complements, does the rounds, and complements back.
use mir.Syntax.{w64}
use Rattle.laws.proofs.Arrays.{array_below}
use Rattle.keccak.proofs.Flips.{uncomplemented}
use Rattle.keccak.proofs.permuted.Goals as goal

pub returns : goal.returns
returns c =
    let fit = array_below w64 25 c.args.a _ c.well_formed.0 in
    uncomplemented c.args.a _ _ _ fit c.complement.ensures c.rounds.ensures c.complement-2.ensures
