use Rattle.driving.proofs.Laid.{good_sheet_serves_as_laid}
use Rattle.driving.proofs.a_good_sheet_serves_as_laid.Goals as goal

pub returns : goal.returns
returns c = good_sheet_serves_as_laid
