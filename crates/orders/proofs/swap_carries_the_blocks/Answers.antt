use Rattle.orders.proofs.EditSwap.{swap_carries_blocks}
use Rattle.orders.proofs.swap_carries_the_blocks.Goals as goal

pub returns : goal.returns
returns c = swap_carries_blocks
