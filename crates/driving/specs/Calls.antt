-- What take, done and put back answer, for every input: by the sheet, the moment before, the slip and the moment after.
use Rattle.std.specs.Prelude.{◌≡◌, ℕ, ◌<◌, ◌≤◌, Bool, true, false, ◌||◌, ◌⊎◌, Ok, Err, Result, Some, None, Option, ◌==◌}
use Rattle.orders.specs.Facts.{Effects}
use Rattle.orders.specs.Sheets.{Inside, Outline}
use Rattle.driving.specs.Meanings.{Meaning, Performs, RigFault}

-- a sheet under a task: its order, what its steps do, and whether the task has the action of the step at each position
pub record Work : Type 0 where
  pub order : Outline
  pub effects : Effects
  pub known : ℕ → Bool

-- a run and its rig between two calls: the position that is taken, the positions that are done, and what the rig means
pub record Moment : Type 0 where
  pub taken : Option ℕ
  pub done : ℕ → Bool
  pub rig : Meaning

-- as `open` leaves it: nothing is taken and nothing done
abbrev pub opening : Meaning → Moment
opening rig = record { taken = None; done = λ p. false; rig = rig }

-- why a call is refused
pub data RunFault : Type 0 where
  -- p is no position (1), or is not open (10)
  position : RunFault
  not_open : RunFault
  -- the slip is blank, or its position is not the one taken (11)
  no_slip : RunFault
  -- the task lacks the action (2)
  unknown : RunFault
  -- the rig refuses (12, 13), at this position
  refused : ℕ → RigFault → RunFault

-- p is open: nothing is taken, p is not done, all that is tied before p is done, and every block with some but not all
-- positions done has p
pub record Open (s : Outline) (m : Moment) (p : ℕ) : Type 0 where
  pub nothing : m.taken ≡ None
  pub position : p < s.size
  pub undone : m.done p ≡ false
  pub due : (i : ℕ) → s.tied i p ≡ true → m.done i ≡ true
  pub entered : (a b x y : ℕ) → s.block a b ≡ true → Inside a b x → Inside a b y → m.done x ≡ true →
      m.done y ≡ false → Inside a b p

-- what `take` answers, with the slip that it gives; a slip is the position that it bears
abbrev pub Takes : Work → Moment → ℕ → Result (Unit {0}) RunFault → Option ℕ → Moment → Type 0
Takes w m p (Ok x) slip after = Open w.order m p × (slip ≡ Some p)
    × (after ≡ record { taken = Some p; done = m.done; rig = m.rig })
Takes w m p (Err position) slip after = (w.order.size ≤ p) × (slip ≡ None) × (after ≡ m)
Takes w m p (Err not_open) slip after = (p < w.order.size) × (Open w.order m p → ⊥) × (slip ≡ None) × (after ≡ m)
Takes w m p (Err no_slip) slip after = ⊥
Takes w m p (Err unknown) slip after = ⊥
Takes w m p (Err (refused q fault)) slip after = ⊥

-- the slip bears p, and p is the position that is taken
abbrev pub Bears : Moment → Option ℕ → ℕ → Type 0
Bears m slip p = (slip ≡ Some p) × (m.taken ≡ Some p)

-- a position with p done too
abbrev pub done_too : (ℕ → Bool) → ℕ → ℕ → Bool
done_too done p x = done x || x == p

-- what `done` answers, with what the slip bears afterwards
abbrev pub Does : Work → Moment → Option ℕ → Result (Unit {0}) RunFault → Option ℕ → Moment → Type 0
Does w m slip (Ok x) slip' after = (p : ℕ) × Bears m slip p × (w.known p ≡ true)
    × Performs (w.effects.needs p) (w.effects.adds p) (w.effects.deletes p) m.rig (Ok x) after.rig
    × (after.taken ≡ None) × ((q : ℕ) → after.done q ≡ done_too m.done p q) × (slip' ≡ None)
Does w m slip (Err no_slip) slip' after = ((p : ℕ) → Bears m slip p → ⊥) × (slip' ≡ slip) × (after ≡ m)
Does w m slip (Err unknown) slip' after = (p : ℕ) × Bears m slip p × (w.known p ≡ false) × (slip' ≡ slip) × (after ≡ m)
Does w m slip (Err (refused p fault)) slip' after = Bears m slip p × (w.known p ≡ true)
    × Performs (w.effects.needs p) (w.effects.adds p) (w.effects.deletes p) m.rig (Err fault) m.rig × (slip' ≡ slip)
    × (after ≡ m)
Does w m slip (Err position) slip' after = ⊥
Does w m slip (Err not_open) slip' after = ⊥

-- what `put back` answers
abbrev pub PutsBack : Moment → Option ℕ → Result (Unit {0}) RunFault → Option ℕ → Moment → Type 0
PutsBack m slip (Ok x) slip' after = (p : ℕ) × Bears m slip p × (slip' ≡ None)
    × (after ≡ record { taken = None; done = m.done; rig = m.rig })
PutsBack m slip (Err no_slip) slip' after = ((p : ℕ) → Bears m slip p → ⊥) × (slip' ≡ slip) × (after ≡ m)
PutsBack m slip (Err position) slip' after = ⊥
PutsBack m slip (Err not_open) slip' after = ⊥
PutsBack m slip (Err unknown) slip' after = ⊥
PutsBack m slip (Err (refused p fault)) slip' after = ⊥

-- a take of p, or else a done with the slip that it gave, is refused for that reason
abbrev pub RefusedAt : Work → Moment → ℕ → RunFault → Type 0
RefusedAt w m p reason =
    Takes w m p (Err reason) None m
    ⊎ ((taken : Moment) × Takes w m p (Ok tt) (Some p) taken × Does w taken (Some p) (Err reason) (Some p) taken)

-- p is taken and done; or one of the two calls is refused, what is taken is put back, and the moment is the one before
abbrev pub TakesAndDoes : Work → Moment → ℕ → Result (Unit {0}) RunFault → Moment → Type 0
TakesAndDoes w m p (Ok x) after = (taken : Moment) × Takes w m p (Ok tt) (Some p) taken
    × Does w taken (Some p) (Ok tt) None after
TakesAndDoes w m p (Err reason) after = RefusedAt w m p reason × (after ≡ m)
