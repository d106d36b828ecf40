use Rattle.driving.proofs.Bad.{bad_sheet_fails}
use Rattle.driving.proofs.a_bad_sheet_fails_some_driving.Goals as goal

pub returns : goal.returns
returns c = bad_sheet_fails
