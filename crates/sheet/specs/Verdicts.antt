-- What the check of a sheet says, by its running orders.
use Rattle.std.specs.Prelude.{◌≡◌, ℕ, ◌<◌, ◌≤◌, Bool, false, ◌&&◌, ◌⊎◌, List, length, Some, None, Option, Result, MatchResult, nat_lt, slice_index, slice_index_or}
use Rattle.std.specs.List.{slice_get}
use Rattle.std.specs.Option.{option_flatten, option_map}
use Rattle.orders.specs.Facts.{Effects, Good, Wanting}
use Rattle.orders.specs.Sheets.{Outline}
use Rattle.sets.specs.Contents.{contents}
use Rattle.sets.specs.Member.{member}
use Rattle.sets.specs.declared.bits.BitSet.{BitSet}
use Rattle.sheet.specs.Sheets.{actions, outline}
use Rattle.sheet.specs.declared.fault.SheetFault.{SheetFault}
use Rattle.sheet.specs.declared.fault.SheetFault.TheVariants.{UnknownAction, WantingFact, TooLong}
use Rattle.sheet.specs.declared.sheet.Sheet.{Sheet}
use Rattle.task.specs.declared.actions.Action.{Action}
use Rattle.task.specs.declared.tasks.Task.{Task}

-- the task's action for the p-th of the numbers, if both are there
abbrev pub action_at : Task → List ℕ → ℕ → Option Action
action_at task numbers p = option_flatten (option_map (slice_get (contents task.actions)) (slice_get numbers p))

-- whether that set of the action has f; there is nothing where there is no action
abbrev pub has_fact : (Action → BitSet 1) → Option Action → ℕ → Bool
has_fact part None f = false
has_fact part (Some action) f = member (part action).words f

-- what the steps of those action numbers do in the task
abbrev pub effects_of : Task → List ℕ → Effects
effects_of task numbers = record {
  needs = λ p. has_fact (λ a. a.needs) (action_at task numbers p);
  adds = λ p. has_fact (λ a. a.adds) (action_at task numbers p);
  deletes = λ p. has_fact (λ a. a.deletes) (action_at task numbers p);
  start = member task.start.words;
  goal = member task.goal.words;
}

abbrev pub effects : Task → Sheet → Effects
effects task sheet = effects_of task (actions sheet)

-- the task has an action of that number
abbrev pub Known : Task → ℕ → Type 0
Known task number = number < length (contents task.actions)

abbrev pub AllKnown : Task → List ℕ → Type 0
AllKnown task numbers = (k : ℕ) → k < length numbers → Known task (slice_index numbers k)

-- the first of the numbers that the task lacks
pub record FirstUnknown (task : Task) (numbers : List ℕ) (number : ℕ) : Type 0 where
  pub at : ℕ
  pub within : at < length numbers
  pub there : slice_index_or numbers at 0 ≡ number
  pub lacking : length (contents task.actions) ≤ number
  pub first : (k : ℕ) → k < at → Known task (slice_index numbers k)

-- passes numbers all of which the task has, and refuses the first that it lacks
abbrev pub ChecksActions : Task → List ℕ → Result (Unit {0}) SheetFault → Type 0
ChecksActions task numbers r =
    MatchResult r (λ _. AllKnown task numbers) (λ fault. (number : ℕ) × (fault ≡ UnknownAction number) × FirstUnknown task numbers number)

-- the lowest place that is wanting anything, and the lowest fact that it is wanting
pub record LowestWanting (s : Outline) (e : Effects) (place fact : ℕ) : Type 0 where
  pub wanting : Wanting s e place fact
  pub lowest_place : (p f : ℕ) → p < place → Wanting s e p f → ⊥
  pub lowest_fact : (f : ℕ) → f < fact → Wanting s e place f → ⊥

-- steps of those action numbers in that outline pass the check
abbrev pub Passes : Task → List ℕ → Outline → Type 0
Passes task numbers s = AllKnown task numbers × Good s (effects_of task numbers)

-- or are refused
abbrev pub Refused : Task → List ℕ → Outline → SheetFault → Type 0
Refused task numbers s fault =
    ((number : ℕ) × (fault ≡ UnknownAction number) × FirstUnknown task numbers number)
    ⊎ ((place : ℕ) × ((fact : ℕ) × (fault ≡ WantingFact place fact) × AllKnown task numbers × LowestWanting s (effects_of task numbers) place fact))

-- what `check` answers
abbrev pub Checks : Task → Sheet → Result (Unit {0}) SheetFault → Type 0
Checks task sheet r = MatchResult r (λ _. Passes task (actions sheet) (outline sheet)) (Refused task (actions sheet) (outline sheet))

-- n steps in a row: all are tied, and there is no block
abbrev pub in_a_row : ℕ → Outline
in_a_row n = record { size = n; tied = λ i j. nat_lt i j && nat_lt j n; block = λ a b. false }

-- what `lay` answers
abbrev pub Lays : Task → List ℕ → Result Sheet SheetFault → Type 0
Lays task plan r = MatchResult r
    (λ sheet. (length plan ≤ 128) × (actions sheet ≡ plan) × (outline sheet ≡ in_a_row (length plan)) × Passes task plan (in_a_row (length plan)))
    (λ fault. ((128 < length plan) × (fault ≡ TooLong)) ⊎ ((length plan ≤ 128) × Refused task plan (in_a_row (length plan)) fault))
