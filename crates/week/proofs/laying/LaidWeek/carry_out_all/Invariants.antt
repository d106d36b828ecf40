use Rattle.std.proofs.Common.{◌≡◌, ◌≤◌, List, length}
use Rattle.book.specs.Weeks.{ChangeFits, bytes}
use Rattle.records.specs.Lines.{Line, Proper}
use Rattle.records.specs.Reading.{unread}
use Rattle.week.proofs.Working.{Working}
use Rattle.week.specs.Editing.{changes_in}
use Rattle.std.specs.List.{AllByRecursion}
use Rattle.week.proofs.laying.LaidWeek.carry_out_all.Given as goal

abbrev pub invariant-loop-edit : goal.invariant-loop-edit
invariant-loop-edit l = (l.self.task ≡ l.initial.self.task) × (l.len ≤ length l.initial.out) × ((lines : List Line) → AllByRecursion Proper lines → AllByRecursion ChangeFits (changes_in lines) → l.book ≡ bytes lines → Working l.initial.self.task l.initial.self.sheet l.initial.out lines l.reader l.len l.self.sheet l.out)

abbrev pub decreases-loop-edit : goal.decreases-loop-edit
decreases-loop-edit l = length (unread l.reader)
