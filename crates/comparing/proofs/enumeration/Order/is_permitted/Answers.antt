use Rattle.std.proofs.Common.{subst}
use Rattle.comparing.proofs.enumeration.Order.is_permitted.Goals as goal
use Rattle.comparing.specs.Orders.{KeepsTies}

pub returns-then-keeps_ties : goal.returns-then-keeps_ties
returns-then-keeps_ties g c all = subst (λ pairs. KeepsTies g.P.Position.numbers pairs c.args.self.now) c.as_slice.ensures (c.keeps_ties.ensures c.if-keeps_ties.true)
