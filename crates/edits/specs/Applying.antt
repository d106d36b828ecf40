-- What any edit answers: what its own rule says, and what holds of all five.
use Rattle.std.specs.Prelude.{◌≡◌, ℕ, ◌+◌, Ok, Err, sum_by, Result}
use Rattle.shaping.specs.Answers.{Groups, Loosens, Ungroups}
use Rattle.edits.specs.Replacing.{Replaces}
use Rattle.edits.specs.Swaps.{Swaps}
use Rattle.edits.specs.declared.edit.Edit.{Edit}
use Rattle.edits.specs.declared.edit.Edit.TheVariants.{Swap, Group, Ungroup, Loosen, Replace}
use Rattle.shaping.specs.declared.fault.EditFault.{EditFault}
use Rattle.orders.specs.Changes.{Change}
use Rattle.orders.specs.Changes.Change.{swap, group, ungroup, loosen, replace}
use Rattle.sheet.specs.Sheets.{actions, outline}
use Rattle.sheet.specs.Verdicts.{Passes}
use Rattle.sheet.specs.declared.sheet.Sheet.{Sheet}
use Rattle.task.specs.declared.tasks.Task.{Task}

-- the edit as plain numbers
abbrev pub change_of : Edit → Change
change_of (Swap k) = swap k
change_of (Group a b) = group a b
change_of (Ungroup a b) = ungroup a b
change_of (Loosen i j) = loosen i j
change_of (Replace a b list) = replace a b list.now

-- an answer with no word of a saving, where nothing is saved
abbrev pub with_no_saving : Result (Unit {0}) EditFault → Result ℕ EditFault
with_no_saving (Ok x) = Ok 0
with_no_saving (Err fault) = Err fault

-- what an answer says is saved; a refusal saves nothing
abbrev pub saved : Result ℕ EditFault → ℕ
saved (Ok saving) = saving
saved (Err fault) = 0

-- an edit that saves nothing, by its rule
abbrev pub NoSaving : (Result (Unit {0}) EditFault → Type 0) → Result ℕ EditFault → Type 0
NoSaving Says answer = (r : Result (Unit {0}) EditFault) × Says r × (answer ≡ with_no_saving r)

-- the edit's own rule
abbrev pub ByRule : (ℕ → ℕ) → Task → Sheet → Change → Result ℕ EditFault → Sheet → Type 0
ByRule prices task before (swap k) answer after = NoSaving (λ r. Swaps before k r after) answer
ByRule prices task before (group a b) answer after = NoSaving (λ r. Groups before a b r after) answer
ByRule prices task before (ungroup a b) answer after = NoSaving (λ r. Ungroups task before a b r after) answer
ByRule prices task before (loosen i j) answer after = NoSaving (λ r. Loosens task before i j r after) answer
ByRule prices task before (replace a b list) answer after = Replaces prices task before a b list answer after

-- what `apply` answers
pub record Applies (prices : ℕ → ℕ) (task : Task) (before : Sheet) (change : Change) (answer : Result ℕ EditFault) (after : Sheet) : Type 0 where
  pub by_rule : ByRule prices task before change answer after
  -- a sheet that passes the check under the task passes it afterwards
  pub stays_good : Passes task (actions before) (outline before) → Passes task (actions after) (outline after)
  -- the price before is the price afterwards and the saving
  pub balanced : sum_by prices (actions before) ≡ sum_by prices (actions after) + saved answer
  -- what is refused leaves the very same sheet
  pub unchanged : (fault : EditFault) → answer ≡ Err fault → after ≡ before
