use Rattle.orders.proofs.DrivingOrders.{driving_ends_running}
use Rattle.orders.proofs.a_driving_to_the_end_is_a_running_order.Goals as goal

pub returns : goal.returns
returns c = driving_ends_running
