use Rattle.std.proofs.Common.{◌∙◌, rules}
use Rattle.whole_week.proofs.Saving.{added, one_more, sum_fits}
use Rattle.whole_week.proofs.editing.apply_all.Goals as goal
use Rattle.whole_week.specs.Week.Edits.{none}

pub loop-edit-init : goal.loop-edit-init
loop-edit-init g c = none

pub overflow_add-saved : goal.overflow_add-saved
overflow_add-saved g c =
    let prices = g.T.Tariff.prices c.args.tariff.now in
    let law = g.met.T.Tariff.lawful c.args.tariff.now in
    let more = one_more _ prices law c.args.task.now c.args.sheet.now c.args.edits.now c.loop-edit.edit-index _ c.loop-edit-test.true c.loop-edit.saved
    c.loop-edit.sheet c.apply.new.sheet c.apply.result c.loop-edit.invariant c.apply.ensures in
    let fits = sum_fits _ prices law c.args.task.now c.args.sheet.now more in
    let is = c.unwrap_or-saved.ensures ∙ added c.apply.result in
    search rules

pub loop-edit-preserved : goal.loop-edit-preserved
loop-edit-preserved g c =
    let prices = g.T.Tariff.prices c.args.tariff.now in
    let law = g.met.T.Tariff.lawful c.args.tariff.now in
    let more = one_more _ prices law c.args.task.now c.args.sheet.now c.args.edits.now c.loop-edit.edit-index _ c.loop-edit-test.true c.loop-edit.saved
    c.loop-edit.sheet c.apply.new.sheet c.apply.result c.loop-edit.invariant c.apply.ensures in
    let is = c.unwrap_or-saved.ensures ∙ added c.apply.result in
    rw is more
