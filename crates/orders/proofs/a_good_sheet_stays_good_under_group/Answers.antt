use Rattle.orders.proofs.EditGroup.{group_keeps_good}
use Rattle.orders.proofs.a_good_sheet_stays_good_under_group.Goals as goal

pub returns : goal.returns
returns c = group_keeps_good
