-- What a run and a slip are between two calls.
use Rattle.std.specs.Prelude.{◌≡◌, ℕ, Bool, true, false, List, is_some, Ok, Err, Result, Option}
use Rattle.driving.specs.Calls.{Moment, RunFault as Why, Work}
use Rattle.driving.specs.Calls.RunFault.{no_slip, not_open, position as no_position, refused, unknown}
use Rattle.driving.specs.Meanings.{Meaning, Performs}
use Rattle.orders.specs.Sheets.{Inside, Outline}
use Rattle.runs.specs.Moves.{taken_of}
use Rattle.runs.specs.declared.run.Run.{Run}
use Rattle.runs.specs.declared.slip.Slip.{Slip}
use Rattle.sets.specs.Sets.{has}
use Rattle.sheet.specs.Sheets.{actions, outline}
use Rattle.sheet.specs.Verdicts.{action_at, effects_of}
use Rattle.sheet.specs.declared.sheet.Sheet.{Sheet}
use Rattle.task.specs.declared.tasks.Task.{Task}

-- steps of those action numbers in that order, under a task
abbrev pub work_in : Task → List ℕ → Outline → Work
work_in task numbers order = record {
  order = order;
  effects = effects_of task numbers;
  known = λ p. is_some (action_at task numbers p);
}

-- a sheet under a task
abbrev pub work : Task → Sheet → Work
work task sheet = work_in task (actions sheet) (outline sheet)

abbrev pub work_of : Run → Work
work_of run = work run.task.now run.sheet.now

-- the position that is taken, if any
abbrev pub taken : Run → Option ℕ
taken run = taken_of run.state

-- whether p is done
abbrev pub is_done : Run → ℕ → Bool
is_done run = has run.done

-- a run, with what its rig means
abbrev pub moment_of : Run → Meaning → Moment
moment_of run rig = record { taken = taken run; done = is_done run; rig = rig }

-- the position that the slip bears, if any
abbrev pub position : Slip → Option ℕ
position slip = slip.position

-- what of an open position does not turn on what is taken
pub record Next (s : Outline) (done : ℕ → Bool) (p : ℕ) : Type 0 where
  pub undone : done p ≡ false
  pub due : (i : ℕ) → s.tied i p ≡ true → done i ≡ true
  pub entered : (a b x y : ℕ) → s.block a b ≡ true → Inside a b x → Inside a b y → done x ≡ true → done y ≡ false →
      Inside a b p

-- the positions a to b are no block that bars p: one with some but not all positions done, and without p
abbrev pub Lets : Outline → (ℕ → Bool) → ℕ → ℕ → ℕ → Type 0
Lets s done p a b = (x y : ℕ) → s.block a b ≡ true → Inside a b x → Inside a b y → done x ≡ true → done y ≡ false →
    Inside a b p

-- what comes of having the rig perform the action of the step at p
abbrev pub Performed : Work → ℕ → Meaning → Result (Unit {0}) Why → Meaning → Type 0
Performed w p m (Ok x) n = (w.known p ≡ true)
    × Performs (w.effects.needs p) (w.effects.adds p) (w.effects.deletes p) m (Ok x) n
Performed w p m (Err unknown) n = (w.known p ≡ false) × (n ≡ m)
Performed w p m (Err (refused q fault)) n =
    (q ≡ p) × (w.known p ≡ true) × Performs (w.effects.needs p) (w.effects.adds p) (w.effects.deletes p) m (Err fault) n
Performed w p m (Err no_position) n = ⊥
Performed w p m (Err not_open) n = ⊥
Performed w p m (Err no_slip) n = ⊥
