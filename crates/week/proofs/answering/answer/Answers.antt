use Rattle.std.proofs.Common.{rules}
use Rattle.week.proofs.Writing.{answer_of_sheet, answer_refused}
use Rattle.week.proofs.answering.answer.Goals as goal

pub returns-in-Ok : goal.returns-in-Ok
returns-in-Ok c = answer_of_sheet _ _ _ _ _ _ c.in-Ok.ensures c.edited.ensures

pub returns-in-Err : goal.returns-in-Err
returns-in-Err c = answer_refused (λ n o h. search rules) _ _ _ c.reply.result c.map.result _ c.map.ensures.cases c.in-Err.ensures c.reply.ensures
