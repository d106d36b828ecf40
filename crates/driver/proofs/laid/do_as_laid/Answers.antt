use Rattle.driver.proofs.Well.{laid_well}
use Rattle.driver.proofs.laid.do_as_laid.Goals as goal
use Rattle.runs.specs.Views.{work}
use Rattle.sheet.proofs.SheetRules.{sheet_rules}

pub returns-clause-well : goal.returns-clause-well
returns-clause-well g c =
    laid_well (work c.args.task.now c.args.sheet.now) (sheet_rules c.args.sheet.now) (g.R.Rig.meaning c.args.rig.now)
    c.in_home_order.result (g.R.Rig.meaning c.in_home_order.new.rig) c.in_home_order.ensures.as_laid
