use Rattle.std.proofs.Common.{◌≤◌, refl, ◌∙◌, arith, rules}
use Rattle.std.proofs.lemmas.Result.{err_from_is_err_and}
use Rattle.book.specs.Stages.{rank_of}
use Rattle.book.proofs.Described.{deeds_count, described_push}
use Rattle.book.proofs.loader.Loader.act.Goals as goal

pub returns-in_err-add_action : goal.returns-in_err-add_action
returns-in_err-add_action c d proper says w (t, p) =
    let r = err_from_is_err_and c.from_residual-in_err-add_action.result c.from_residual-in_err-add_action.ensures.1 in
    rw r.1 (λ m. omega (arith, c.in_err-add_action.ensures.actions, deeds_count t))

pub returns : goal.returns
returns c d proper says w (t, p) =
    let early : rank_of c.args.self.now.stage ≤ 1 = search rules in
    let e = c.in_ok-add_action.ensures in
    let a = c.in_ok-action.ensures d proper says in (
      (early, omega (arith, e.actions.0, deeds_count t), rw t.facts at a.0),
      (record { facts = e.facts ∙ t.facts; actions = rw e.actions.1 (described_push w.deeds _ d _ t.actions a.1); start = rw e.start t.start; goal = rw e.goal t.goal }, p),
      refl,
    )
