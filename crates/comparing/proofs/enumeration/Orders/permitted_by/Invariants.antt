use Rattle.std.specs.List.{All}
use Rattle.sets.specs.Contents.{contents}
use Rattle.comparing.proofs.enumeration.Orders.permitted_by.Given as goal
use Rattle.comparing.specs.Orders.{KeepsTies, ties}

abbrev pub invariant-loop-index : goal.invariant-loop-index
invariant-loop-index g l = All (KeepsTies g.P.Position.numbers (ties l.model)) (contents l.all)
