use Rattle.std.proofs.lemmas.Result.{err_from_is_err_and}
use Rattle.edits.proofs.ReplaceAnswers.{first_in_front, known_in_front}
use Rattle.edits.proofs.replacing.known_asked.Goals as goal
use Rattle.sheet.specs.Sheets.{actions}

pub returns-in_err-check_steps : goal.returns-in_err-check_steps
returns-in_err-check_steps c =
    let task = c.args.task.now in
    let p = err_from_is_err_and c.from_residual.result c.from_residual.ensures.1 in
    let (number, is, first) = c.in_err-check_steps.ensures in
    rw (p.1, p.2) (number, is, first_in_front task (actions c.args.sheet.now) c.args.list.now number first)

pub returns : goal.returns
returns c = known_in_front c.args.task.now (actions c.args.sheet.now) c.args.list.now c.in_ok-check_steps.ensures c.check_actions.result c.check_actions.ensures
