use Rattle.sheet.proofs.RowLaws.{row_empty}
use Rattle.sheet.proofs.relation.Relation.empty.Goals as goal

pub returns : goal.returns
returns c = row_empty 128 c.empty.result c.empty.ensures
