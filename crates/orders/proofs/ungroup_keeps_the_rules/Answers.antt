use Rattle.orders.proofs.EditLoosen.{ungroup_keeps_rules}
use Rattle.orders.proofs.ungroup_keeps_the_rules.Goals as goal

pub returns : goal.returns
returns c = ungroup_keeps_rules
