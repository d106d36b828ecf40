use Rattle.orders.proofs.Home.{home_is_running}
use Rattle.orders.proofs.home_is_a_running_order.Goals as goal

pub returns : goal.returns
returns c = home_is_running
