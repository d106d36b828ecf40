use Rattle.orders.proofs.EditGroup.{group_keeps_rules}
use Rattle.orders.proofs.group_keeps_the_rules.Goals as goal

pub returns : goal.returns
returns c = group_keeps_rules
