use Rattle.orders.proofs.EditReplace.{replace_keeps_ties}
use Rattle.orders.proofs.replace_keeps_the_ties_around.Goals as goal

pub returns : goal.returns
returns c = replace_keeps_ties
