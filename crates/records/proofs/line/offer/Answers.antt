use Rattle.std.proofs.Common.{sym, refl}
use Rattle.std.proofs.lemmas.Result.{MatchResult-from_err}
use Rattle.text.specs.Fields.{commas}
use Rattle.records.proofs.FirstField.{past_number}
use Rattle.records.proofs.line.offer.Goals as goal

pub returns-in_err-first : goal.returns-in_err-first
returns-in_err-first c = MatchResult-from_err _ _ _ c.from_residual.ensures.0 (λ _ a b list s t u e. c.in_err-first.ensures.1 (a, _) (s, e))

pub returns-in_err-last : goal.returns-in_err-last
returns-in_err-last c =
    MatchResult-from_err _ _ _ c.from_residual-in_err-last.ensures.0 (λ _ a b list s t u e.
    let n = c.in_ok-first.ensures in
    c.in_err-last.ensures.1 (b, _) (t, (past_number _ _ _ a _ n.0 s n.1 e).1))

pub returns-in_err-numbers : goal.returns-in_err-numbers
returns-in_err-numbers c =
    MatchResult-from_err _ _ _ c.from_residual-in_err-numbers.ensures.0 (λ _ a b list s t u e.
    let n = c.in_ok-first.ensures in
    let e₁ = (past_number _ _ _ a _ n.0 s n.1 e).1 in
    let m = c.in_ok-last.ensures in
    let e₂ = (past_number _ _ _ b _ m.0 t m.1 e₁).1 in
    c.in_err-numbers.ensures.1 (commas list) (sym e₂, (list, u, refl)))
