use Rattle.std.proofs.Common.{◌≡◌, ℕ, ◌&&◌}
use Rattle.orders.specs.Check.{some_below}
use Rattle.sets.specs.Member.{member}
use Rattle.sheet.proofs.checking.supplied.Given as goal
use Rattle.sheet.specs.Rows.{in_row}

abbrev pub invariant-loop-x : goal.invariant-loop-x
invariant-loop-x l = (f : ℕ) → member l.supplied.words f ≡ some_below l.x (λ y. in_row l.adds y f && member l.positions.words y)
