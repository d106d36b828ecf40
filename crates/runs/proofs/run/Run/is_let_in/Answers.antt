use Rattle.std.proofs.Common.{arith}
use Rattle.sheet.proofs.SheetRules.{sheet_rules}
use Rattle.runs.proofs.Opening.{all_let}
use Rattle.runs.proofs.run.Run.is_let_in.Goals as goal
use Rattle.runs.specs.Views.{is_done, work_of}

pub returns : goal.returns
returns c =
    let run = c.args.self.now in
    all_let (work_of run).order (sheet_rules run.sheet.now) (is_done run) c.args.p (λ a l. c.loop-a.invariant a (omega arith))
