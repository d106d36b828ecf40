use Rattle.orders.proofs.DrivingOrders.{running_is_driven}
use Rattle.orders.proofs.every_running_order_can_be_driven.Goals as goal

pub returns : goal.returns
returns c = running_is_driven
