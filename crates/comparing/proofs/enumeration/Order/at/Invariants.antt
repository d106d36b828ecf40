use Rattle.std.proofs.Common.{◌≡◌, length, min}
use Rattle.comparing.proofs.enumeration.Order.at.Given as goal
use Rattle.comparing.specs.Orders.{positions}

abbrev pub invariant-loop-k : goal.invariant-loop-k
invariant-loop-k g l = length (positions l.order) ≡ min l.k 6
