use Rattle.std.specs.Fn.{CalledAt}
use Rattle.driver.proofs.Well.{ends_well}
use Rattle.driver.proofs.picked.drive.Goals as goal
use Rattle.runs.specs.Views.{work}
use Rattle.sheet.proofs.SheetRules.{sheet_rules}

pub returns-clause-well : goal.returns-clause-well
returns-clause-well g c =
    ends_well (CalledAt g.C.FnMut) (work c.args.task.now c.args.sheet.now) (sheet_rules c.args.sheet.now) (g.R.Rig.meaning c.args.rig.now) c.args.choose
    c.as_picked.result (g.R.Rig.meaning c.as_picked.new.rig) c.as_picked.ensures.ends
