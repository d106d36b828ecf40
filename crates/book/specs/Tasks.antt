-- The task that a week's book describes.
use Rattle.std.specs.Prelude.{◌≡◌, ℕ, List, [], ◌∷◌, length}
use Rattle.orders.specs.Lists.{listed}
use Rattle.sets.specs.Contents.{contents}
use Rattle.sets.specs.Member.{member}
use Rattle.sets.specs.declared.bits.BitSet.{BitSet}
use Rattle.task.specs.declared.actions.Action.{Action}
use Rattle.task.specs.declared.tasks.Task.{Task}
use Rattle.records.specs.Lines.{Deed}
use Rattle.book.specs.Weeks.{Week}

-- the set has just these facts
abbrev pub Has : BitSet 1 → List ℕ → Type 0
Has set facts = (f : ℕ) → member set.words f ≡ listed facts f

-- the action is the one that the book writes so
pub record Describes (d : Deed) (a : Action) : Type 0 where
  pub price : a.price ≡ d.price
  pub needs : Has a.needs d.needs
  pub adds : Has a.adds d.adds
  pub deletes : Has a.deletes d.deletes

-- the actions are those that the book writes, one for one
abbrev pub DescribeAll : List Deed → List Action → Type 0
DescribeAll [] [] = Unit {0}
DescribeAll [] (a ∷ actions) = ⊥
DescribeAll (d ∷ deeds) [] = ⊥
DescribeAll (d ∷ deeds) (a ∷ actions) = Describes d a × DescribeAll deeds actions

-- the task of a week
pub record TaskOf (w : Week) (t : Task) : Type 0 where
  pub facts : t.facts ≡ length w.facts
  pub actions : DescribeAll w.deeds (contents t.actions)
  pub start : Has t.start w.starts
  pub goal : Has t.goal w.goals
