use Rattle.edits.proofs.ReplaceAnswers.{known_back}
use Rattle.edits.proofs.replacing.asked_for.Goals as goal
use Rattle.sheet.proofs.Laid.{known_small}
use Rattle.sheet.specs.Sheets.{actions}

pub invariant_of-offer-clause-small : goal.invariant_of-offer-clause-small
invariant_of-offer-clause-small c = known_small c.args.task.now c.args.list.now (known_back c.args.task.now (actions c.args.sheet.now) c.args.list.now c.in_ok-known_asked.ensures)
