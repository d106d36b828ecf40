use Rattle.orders.proofs.EditGroup.{group_adds_fewest}
use Rattle.orders.proofs.group_adds_the_fewest_ties.Goals as goal

pub returns : goal.returns
returns c = group_adds_fewest
