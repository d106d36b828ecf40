use Rattle.orders.proofs.DrivingOrders.{driving_is_front}
use Rattle.orders.proofs.every_driving_is_the_front_of_a_running_order.Goals as goal

pub returns : goal.returns
returns c = driving_is_front
