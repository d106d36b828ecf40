use Rattle.std.proofs.Common.{◌≡◌, length, min}
use Rattle.std.specs.List.{All}
use Rattle.sets.specs.Contents.{contents}
use Rattle.comparing.proofs.enumeration.every_order_as.Given as goal
use Rattle.comparing.specs.Orders.{positions}

abbrev pub invariant-loop-index : goal.invariant-loop-index
invariant-loop-index g l = (length (contents l.every) ≡ min l.index 720) × All (λ order. length (positions order) ≡ min l.n 6) (contents l.every)
