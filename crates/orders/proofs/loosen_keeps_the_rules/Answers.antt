use Rattle.orders.proofs.EditLoosen.{loosen_keeps_rules}
use Rattle.orders.proofs.loosen_keeps_the_rules.Goals as goal

pub returns : goal.returns
returns c = loosen_keeps_rules
