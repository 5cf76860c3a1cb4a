-- `enc`: the coefficients of a public key are those of its bytes.
use borrow.Author.Rules.{rules}
use Rattle.kem_calls.proofs.Verdicts.{ga-good}
use Rattle.kem_calls.proofs.enc.Goals as goal

pub enc-requires : goal.enc-requires
enc-requires c =
    let good = c.in_ok-judge_enc.ensures.as_asked in
    search (rules, ga-good)
