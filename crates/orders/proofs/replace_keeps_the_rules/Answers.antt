use Rattle.orders.proofs.EditReplace.{replace_keeps_rules}
use Rattle.orders.proofs.replace_keeps_the_rules.Goals as goal

pub returns : goal.returns
returns c = replace_keeps_rules
