-- Steps under a task, where their order keeps the rules: how a rig can be driven over them.
use Rattle.std.proofs.Common.{◌≡◌, ℕ, ◌<◌, true, List, length, slice_index, is_some, ap, ◌∙◌, ⊎_elim, arith}
use Rattle.std.proofs.lemmas.Bool.{both_ways}
use Rattle.std.proofs.lemmas.Option.{slice_get-get_or, slice_get_cases}
use Rattle.std.specs.List.{slice_get}
use Rattle.std.specs.Option.{option_flatten, option_map}
use Rattle.orders.specs.Facts.{Good, Wanting}
use Rattle.orders.specs.Sheets.{Outline, Rules}
use Rattle.driving.proofs.Bad.{bad_sheet_fails}
use Rattle.driving.proofs.Good.{good_sheet_serves}
use Rattle.driving.specs.Calls.{Moment}
use Rattle.driving.specs.Drivings.{Begins, Drives, Serves}
use Rattle.driving.specs.Meanings.{Meaning}
use Rattle.driving.specs.Theorems.{AllKnown as KnownAll, NeedsBelow, SomeDrivingFails}
use Rattle.runs.specs.Views.{work_in}
use Rattle.sets.specs.Contents.{contents}
use Rattle.sheet.proofs.Effects.{has_small}
use Rattle.sheet.proofs.SheetRules.{sheet_rules}
use Rattle.sheet.specs.Sheets.{actions, outline}
use Rattle.sheet.specs.Verdicts.{AllKnown, Known, action_at, effects_of}
use Rattle.sheet.specs.declared.sheet.Sheet.{Sheet}
use Rattle.task.specs.declared.tasks.Task.{Task}

-- a list has an entry at each place below its length
entry_there : {X : Type 0} (xs : List X) (i : ℕ) → i < length xs → is_some (slice_get xs i) ≡ true
entry_there xs i l = ⊎_elim (λ (x, _, e, _). ap is_some e) (λ (past, _). absurd (omega arith)) (slice_get_cases xs i).1

-- so the task has an action for each number that it knows
known_there : (task : Task) (numbers : List ℕ) (p : ℕ) → p < length numbers → Known task (slice_index numbers p) → is_some (action_at task numbers p) ≡ true
known_there task numbers p here known =
    ap (λ o. is_some (option_flatten (option_map (slice_get (contents task.actions)) o))) (slice_get-get_or numbers p 0 here)
    ∙ entry_there (contents task.actions) (slice_index numbers p) known

-- steps that the task has the actions of, in an order that keeps the rules and has a position for each
pub record Sound (task : Task) (numbers : List ℕ) (order : Outline) : Type 0 where
  pub rules : Rules order
  pub fits : length numbers ≡ order.size
  pub known : AllKnown task numbers

-- a sheet's steps are sound in its outline
pub sheet_sound : (task : Task) (sheet : Sheet) → AllKnown task (actions sheet) → Sound task (actions sheet) (outline sheet)
sheet_sound task sheet known = record { rules = sheet_rules sheet; fits = omega arith; known = known }

module _ (task : Task) (numbers : List ℕ) (order : Outline) (sound : Sound task numbers order) where
  -- the task has the action of every step
  pub known_all : KnownAll (work_in task numbers order)
  known_all p h = known_there task numbers p (omega (arith, sound.fits)) (sound.known p (omega (arith, sound.fits)))

  -- a task's facts are below 64
  needs_below : NeedsBelow (work_in task numbers order) 64
  needs_below p f h = has_small (λ a. a.needs) (action_at task numbers p) f

  -- some driving fails where a fact is wanting
  pub some_fails : (p f : ℕ) → Wanting order (effects_of task numbers) p f → (rig : Meaning) → Begins (work_in task numbers order) rig →
      SomeDrivingFails (work_in task numbers order) rig
  some_fails = bad_sheet_fails (work_in task numbers order) sound.rules known_all 64 needs_below

  module _ (good : Good order (effects_of task numbers)) (rig : Meaning) (begins : Begins (work_in task numbers order) rig) where
    -- every driving serves where none is
    pub all_serve : (m : Moment) → Drives (work_in task numbers order) rig m → Serves (work_in task numbers order) m
    all_serve m = good_sheet_serves (work_in task numbers order) sound.rules known_all good rig begins m

    -- so no driving fails
    pub none_fails : SomeDrivingFails (work_in task numbers order) rig → ⊥
    none_fails (m, drives, fails) =
        let s = all_serve m drives in
        ⊎_elim s.no_step_refused (λ (done, (f, goal, missing)). both_ways _ missing (s.ends_with_goal done f goal)) fails
