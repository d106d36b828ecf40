use Rattle.smallsheets.proofs.Holding.{every_row_holds}
use Rattle.smallsheets.proofs.every_small_sheet_is_as_the_table_says.Goals as goal

pub returns : goal.returns
returns c = every_row_holds
