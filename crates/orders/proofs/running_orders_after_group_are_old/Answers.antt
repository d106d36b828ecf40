use Rattle.orders.proofs.EditGroup.{group_orders_are_old}
use Rattle.orders.proofs.running_orders_after_group_are_old.Goals as goal

pub returns : goal.returns
returns c = group_orders_are_old
