use Rattle.orders.proofs.EditSwap.{swap_keeps_good}
use Rattle.orders.proofs.a_good_sheet_stays_good_under_swap.Goals as goal

pub returns : goal.returns
returns c = swap_keeps_good
