use Rattle.std.proofs.Common.{◌≡◌, None, Ok, ap, ◌∙◌, subst, arith}
use Rattle.records.specs.Reading.{Next}
use Rattle.week.proofs.ReadEdits.{edit_read, fewer_left, none_bad, none_left, passed_over}
use Rattle.week.proofs.reading.next_edit.Goals as goal
use Rattle.week.proofs.reading.next_edit.Goals.{in_default, in_default-2}
use Rattle.week.specs.Editing.{changes_in}

pub returns-in-Edit-clause-says : goal.returns-in-Edit-clause-says
returns-in-Edit-clause-says c =
    let next = rw c.in-Ok-Some.field-0-is at c.in-Ok-Some.ensures in
    edit_read c.args.reader.now c.loop-record.reader c.next.new.self _ next c.loop-record.invariant.0 _ c.in-Edit.is

pub loop-record-preserved : goal.loop-record-preserved
loop-record-preserved c =
    let next = rw c.in-Ok-Some.field-0-is at c.in-Ok-Some.ensures in
    (passed_over c.args.reader.now c.loop-record.reader c.next.new.self _ next c.loop-record.invariant.0 c.in_default-record.not-Edit, omega (arith, fewer_left c.loop-record.reader c.next.new.self _ next, c.loop-record.invariant.1))

pub returns-clause-says : goal.returns-clause-says
returns-clause-says c lines forms e =
    let s = c.loop-record.invariant.0 lines forms e in
    s.3 ∙ ap changes_in (elim c.match-next.branch [
      | in_default w ↦ (let none : c.next.result ≡ Ok None = cc in none_left s.0 c.loop-record.reader c.next.new.self s.2 (subst (λ r. Next c.loop-record.reader r c.next.new.self) none c.next.ensures))
      | in_default-2 w ↦ none_bad s.0 s.1 c.loop-record.reader c.next.new.self w.in_default.field-0 s.2 (subst (λ r. Next c.loop-record.reader r c.next.new.self) w.in_default.is c.next.ensures)
    ])
