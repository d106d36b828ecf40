use Rattle.std.proofs.Common.{◌≡◌, take}
use Rattle.sets.proofs.list.ArrayVec.collect.Given as goal
use Rattle.sets.specs.Contents.{contents}

abbrev pub invariant-loop-item : goal.invariant-loop-item
invariant-loop-item g l = (goal.iterator-loop-item g).can_next l.item-iterator × (goal.iterator-loop-item g).is_finite l.item-iterator × (contents l.list ≡ take g.row.N l.yielded)
