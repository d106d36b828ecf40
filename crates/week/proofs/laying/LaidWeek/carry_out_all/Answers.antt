use Rattle.std.proofs.Common.{refl, ◌∙◌, arith}
use Rattle.std.proofs.lemmas.Result.{err_from_is_err_and}
use Rattle.week.proofs.Behind.{no_room_behind, written_behind}
use Rattle.week.proofs.Working.{no_room, work_begins, works_on}
use Rattle.week.proofs.laying.LaidWeek.carry_out_all.Goals as goal

pub loop-edit-init : goal.loop-edit-init
loop-edit-init c = (refl, omega arith, λ lines forms fits e. work_begins _ _ _ lines c.new-reader.result forms (c.new-reader.ensures.text ∙ e))

pub returns-in_err-len-clause-says : goal.returns-in_err-len-clause-says
returns-in_err-len-clause-says c lines forms fits e =
    let p = err_from_is_err_and c.from_residual.result c.from_residual.ensures.1 in
    let short = c.in_err-len.ensures in
    let carries = rw c.loop-edit.invariant.0 at c.carry_out-answer.ensures.says in
    let behind = no_room_behind _ c.loop-edit.out c.reply.new.out c.loop-edit.len (omega (arith, c.loop-edit.invariant.1, c.loop-edit.auto.out)) short.0 short.1 in
    rw (p.1, behind.1)
    (no_room _ _ _ lines fits _ _ _ _ c.carry_out-answer.new.self.sheet _ (c.loop-edit.invariant.2 lines forms fits e) c.in-Some.edit c.in-Some.ensures.says c.carry_out-answer.result carries _ c.reply_to.ensures (omega (arith, c.loop-edit.auto.out, behind.0)))

pub loop-edit-preserved : goal.loop-edit-preserved
loop-edit-preserved c =
    let done = c.in_ok-len.ensures in
    let carries = rw c.loop-edit.invariant.0 at c.carry_out-answer.ensures.says in
    let (put, within) = written_behind _ c.loop-edit.out c.reply.new.out c.loop-edit.len (omega (arith, c.loop-edit.invariant.1, c.loop-edit.auto.out)) _ done.0 done.1 done.2 in (
      c.carry_out-answer.ensures.task ∙ c.loop-edit.invariant.0,
      omega (arith, c.loop-edit.auto.out, within),
      λ lines forms fits e.
          works_on _ _ _ lines fits _ _ _ _ c.carry_out-answer.new.self.sheet _ (c.loop-edit.invariant.2 lines forms fits e) c.in-Some.edit c.in-Some.ensures.says c.carry_out-answer.result carries _ c.reply_to.ensures _ _ put,
    )
