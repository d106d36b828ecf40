-- What a week that was carried out did, and what it came to.
use Rattle.std.specs.Prelude.{◌≡◌, ℕ, ◌+◌, true, List, Ok, sum_by}
use Rattle.driver.specs.Ends.{DoesAsLaid, EndedWell, Ends}
use Rattle.driving.specs.Drivings.{Begins}
use Rattle.driving.specs.Meanings.{Meaning}
use Rattle.orders.specs.Changes.{Change}
use Rattle.runs.specs.Views.{work}
use Rattle.sets.specs.Sets.{has}
use Rattle.sets.specs.declared.bits.BitSet.{BitSet}
use Rattle.sheet.specs.Sheets.{actions, outline}
use Rattle.sheet.specs.Verdicts.{Lays, Passes}
use Rattle.sheet.specs.declared.sheet.Sheet.{Sheet}
use Rattle.task.specs.declared.tasks.Task.{Task}
use Rattle.whole_week.specs.Week.{Edits}
use Rattle.whole_week.specs.declared.doing.WeekDone.{WeekDone}

-- all goal facts stand on the rig
abbrev pub GoalOn : Task → Meaning → Type 0
GoalOn task rig = (f : ℕ) → has task.goal f ≡ true → rig.standing f ≡ true

-- the first rig went from `first` to `first'` and the second from `second` to `second'`, by the picks of a closure that
-- began as `choose`
pub record DoesWeek {C : Type 0} (picks : C → BitSet 2 → ℕ → C → Type 0)
    (prices : ℕ → ℕ) (task : Task) (plan : List ℕ) (changes : List Change)
    (first first' : Meaning) (choose : C) (second second' : Meaning) (week : WeekDone) : Type 0 where
  -- the sheet as laid; the first rig does its steps in home order
  pub laid : Sheet
  pub lays : Lays task plan (Ok laid)
  pub as_laid : DoesAsLaid (work task laid) first week.as_laid first'
  -- the edits lead from it to the edited sheet, and save that sum
  pub edited : Edits prices task laid changes week.saved week.sheet
  -- the second rig is driven over that by what the closure picks
  pub as_edited : Ends picks (work task week.sheet) second choose week.as_edited second'
  -- the edited sheet is good, and with the savings it costs what the plan costs
  pub passes : Passes task (actions week.sheet) (outline week.sheet)
  pub balanced : sum_by prices plan ≡ sum_by prices (actions week.sheet) + week.saved
  -- a first rig with just the start facts and enough steps left refuses nothing, and all goal facts stand at its end
  pub first_well : Begins (work task laid) first → (week.as_laid ≡ Ok tt) × GoalOn task first'
  -- nor does such a second rig refuse, unless the closure picked a position that is not open where one was
  pub second_well : Begins (work task week.sheet) second →
      EndedWell picks (work task week.sheet) second choose week.as_edited second'
