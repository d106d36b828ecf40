use Rattle.std.proofs.Common.{arith, sym, ◌∙◌}
use Rattle.sheet.proofs.SheetRules.{sheet_rules}
use Rattle.runs.proofs.Opening.{all_from, none_from}
use Rattle.runs.proofs.run.Run.is_barred_from.Goals as goal
use Rattle.runs.specs.Views.{is_done, work_of}

pub returns-then-is_empty : goal.returns-then-is_empty
returns-then-is_empty c =
    let run = c.args.self.now in
    none_from (work_of run).order (is_done run) c.args.p c.args.a (λ b. sym (c.row.ensures b) ∙ c.if-is_empty.ensures b)

pub returns : goal.returns
returns c =
    let run = c.args.self.now in
    all_from (work_of run).order (sheet_rules run.sheet.now) (is_done run) c.args.p c.args.a (λ b l m. c.loop-b.invariant b l (omega arith))
