use Rattle.std.proofs.lemmas.Result.{MatchResult-from_err}
use Rattle.std.proofs.Common.{decimal}
use Rattle.records.proofs.FirstField.{past_number}
use Rattle.records.proofs.line.pair.Goals as goal

pub returns-in_err-first : goal.returns-in_err-first
returns-in_err-first c = MatchResult-from_err _ _ _ c.from_residual.ensures.0 (λ _ a b s t e. c.in_err-first.ensures.1 (a, decimal b) (s, e))

pub returns-in_err-number : goal.returns-in_err-number
returns-in_err-number c =
    MatchResult-from_err _ _ _ c.from_residual-in_err-number.ensures.0 (λ _ a b s t e.
    let n = c.in_ok-first.ensures in
    c.in_err-number.ensures.1 b (t, (past_number _ _ _ a (decimal b) n.0 s n.1 e).1))
