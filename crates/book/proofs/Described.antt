-- Actions that a book describes, one for one.
use Rattle.std.proofs.Common.{◌≡◌, ℕ, suc, ltb, List, [], ◌∷◌, ◌++◌, length, Option, refl, ap, arith}
use Rattle.std.proofs.lemmas.Bool.Decides.{nat_tests}
use Rattle.std.proofs.lemmas.Grind.{common_steps}
use Rattle.std.proofs.lemmas.Option.{slice_get_cases}
use Rattle.std.specs.List.{slice_get}
use Rattle.std.specs.Option.{is_some}
use Rattle.sets.specs.Contents.{contents}
use Rattle.task.specs.declared.actions.Action.{Action}
use Rattle.task.specs.declared.tasks.Task.{Task}
use Rattle.records.specs.Lines.{Deed}
use Rattle.book.specs.Tasks.{Describes, DescribeAll, TaskOf}
use Rattle.book.specs.Weeks.{Week}

pub described_length : (ds : List Deed) (actions : List Action) → DescribeAll ds actions → length ds ≡ length actions
described_length [] [] h = refl
described_length [] (a ∷ actions) h = absurd h
described_length (d ∷ ds) [] h = absurd h
described_length (d ∷ ds) (a ∷ actions) h = ap suc (described_length ds actions h.1)

pub deeds_count : {w : Week} {task : Task} → TaskOf w task → length w.deeds ≡ length (contents task.actions)
deeds_count {w = w} {task = task} t = described_length w.deeds (contents task.actions) t.actions

-- the book has an action just where the task does
pub deed_there : {w : Week} {task : Task} → TaskOf w task → (a : ℕ) (o : Option Action) → o ≡ slice_get (contents task.actions) a → is_some o ≡ ltb a (length w.deeds)
deed_there {task = task} t a o e = let count = deeds_count t in let there = slice_get_cases (contents task.actions) a in grind (arith, common_steps, nat_tests)

pub described_push : (ds : List Deed) (actions : List Action) (d : Deed) (a : Action) → DescribeAll ds actions → Describes d a → DescribeAll (ds ++ d ∷ []) (actions ++ a ∷ [])
described_push [] [] d a h one = (one, tt)
described_push [] (x ∷ actions) d a h one = absurd h
described_push (y ∷ ds) [] d a h one = absurd h
described_push (y ∷ ds) (x ∷ actions) d a h one = (h.0, described_push ds actions d a h.1 one)
