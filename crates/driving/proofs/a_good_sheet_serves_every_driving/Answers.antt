use Rattle.driving.proofs.Good.{good_sheet_serves}
use Rattle.driving.proofs.a_good_sheet_serves_every_driving.Goals as goal

pub returns : goal.returns
returns c = good_sheet_serves
