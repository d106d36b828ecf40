use Rattle.std.proofs.Common.{◌≡◌, ◌<◌, [], ◌∷◌, ◌++◌, length, ap, ◌∙◌, arith, rules}
use Rattle.std.proofs.lemmas.Bool.Decides.{nat_tests}
use Rattle.std.proofs.lemmas.Result.{MatchResult-from_err}
use Rattle.book.specs.Stages.{rank_of}
use Rattle.book.proofs.Described.{deed_there}
use Rattle.book.proofs.Placed.{answered}
use Rattle.book.proofs.loader.Loader.step.Goals as goal

pub returns-in_err-ok_or : goal.returns-in_err-ok_or
returns-in_err-ok_or c w (t, p) =
    let there = deed_there t c.args.action c.action.result c.action.ensures in
    MatchResult-from_err _ _ _ c.from_residual.ensures.0 (λ _ m. let known = m.2 in grind (arith, nat_tests, there, c.in_err-ok_or.ensures.variant))

pub returns : goal.returns
returns c w (t, p) =
    let now : rank_of c.args.self.now.stage ≡ 3 = search rules in
    let there = deed_there t c.args.action c.action.result c.action.ensures in
    let known : c.args.action < length w.deeds = grind (arith, nat_tests, there, c.in_ok-ok_or.ensures.variant) in
    answered c.push.result c.map_err.result c.map_err.ensures.variant c.push.ensures
    (λ e. (
      (now, omega (arith, e.0, ap length p), known),
      (record { facts = t.facts; actions = t.actions; start = t.start; goal = t.goal }, e.1 ∙ ap (λ xs. xs ++ c.args.action ∷ []) p),
      now,
    ))
    (λ _ e m. omega (arith, e.0, m.1, ap length p))
