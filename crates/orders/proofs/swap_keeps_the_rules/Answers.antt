use Rattle.orders.proofs.EditSwap.{swap_keeps_rules}
use Rattle.orders.proofs.swap_keeps_the_rules.Goals as goal

pub returns : goal.returns
returns c = swap_keeps_rules
