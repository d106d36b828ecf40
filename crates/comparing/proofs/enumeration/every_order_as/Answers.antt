use Rattle.std.proofs.Common.{◌≡◌, length, min}
use Rattle.comparing.proofs.Pushed.{all_pushed, length_pushed}
use Rattle.comparing.proofs.enumeration.every_order_as.Goals as goal
use Rattle.comparing.specs.Orders.{positions}

pub loop-index-preserved : goal.loop-index-preserved
loop-index-preserved g c = (
  length_pushed _ _ _ _ c.push.ensures c.loop-index.index c.loop-index.invariant.0,
  all_pushed (λ order. length (positions order) ≡ min c.args.n 6) _ _ _ _ c.push.ensures c.loop-index.invariant.1 c.at.ensures,
)
