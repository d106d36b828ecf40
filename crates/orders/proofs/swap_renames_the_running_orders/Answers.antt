use Rattle.orders.proofs.EditSwap.{swap_renames_orders}
use Rattle.orders.proofs.swap_renames_the_running_orders.Goals as goal

pub returns : goal.returns
returns c = swap_renames_orders
