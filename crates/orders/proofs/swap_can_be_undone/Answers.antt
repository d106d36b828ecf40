use Rattle.orders.proofs.EditSwap.{swap_undone}
use Rattle.orders.proofs.swap_can_be_undone.Goals as goal

pub returns : goal.returns
returns c = swap_undone
