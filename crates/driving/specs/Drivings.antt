-- Driving a rig over a sheet: one open, then take, done and put back in any order, with any position or slip, refused
-- or not.
use Rattle.std.specs.Prelude.{◌≡◌, ℕ, suc, ◌<◌, ◌≤◌, true, false, ◌⊎◌, Ok, Err, Result, None, Option}
use Rattle.driving.specs.Calls.{Does, Moment, Open, PutsBack, RunFault, Takes, TakesAndDoes, Work, opening}
use Rattle.driving.specs.Calls.RunFault.{no_slip, not_open, position, refused, unknown}
use Rattle.driving.specs.Meanings.{Meaning}

-- the moments that calls lead to, on a rig of that meaning
pub data Drives (w : Work) (rig : Meaning) : Moment → Type 0 where
  opened : Drives w rig (opening rig)
  took : {m n : Moment} (p : ℕ) (answer : Result (Unit {0}) RunFault) (slip : Option ℕ) → Drives w rig m →
      Takes w m p answer slip n →
      Drives w rig n
  did : {m n : Moment} (slip slip' : Option ℕ) (answer : Result (Unit {0}) RunFault) → Drives w rig m →
      Does w m slip answer slip' n →
      Drives w rig n
  put_back : {m n : Moment} (slip slip' : Option ℕ) (answer : Result (Unit {0}) RunFault) → Drives w rig m →
      PutsBack m slip answer slip' n →
      Drives w rig n

-- just the start facts stand on the rig, and it has a step left for each of the sheet's
pub record Begins (w : Work) (rig : Meaning) : Type 0 where
  pub just_start : (f : ℕ) → rig.standing f ≡ w.effects.start f
  pub enough_left : w.order.size ≤ rig.left

-- the first k positions are taken and done in home order, each in its turn, and each call is accepted
pub data AsLaid (w : Work) (rig : Meaning) : ℕ → Moment → Type 0 where
  none : AsLaid w rig 0 (opening rig)
  next : {k : ℕ} {m : Moment} (after : Moment) → AsLaid w rig k m → k < w.order.size →
      TakesAndDoes w m k (Ok tt) after →
      AsLaid w rig (suc k) after

-- whether an answer of `done` refuses the step, and not the slip
abbrev pub RefusesStep : Result (Unit {0}) RunFault → Type 0
RefusesStep (Ok x) = ⊥
RefusesStep (Err position) = ⊥
RefusesStep (Err not_open) = ⊥
RefusesStep (Err no_slip) = ⊥
RefusesStep (Err unknown) = Unit {0}
RefusesStep (Err (refused p fault)) = Unit {0}

-- some call of `done` has its step refused now
abbrev pub StepRefused : Work → Moment → Type 0
StepRefused w m = (slip slip' : Option ℕ) × ((answer : Result (Unit {0}) RunFault) × ((after : Moment)
    × Does w m slip answer slip' after × RefusesStep answer))

-- a position is undone
abbrev pub Undone : Work → Moment → Type 0
Undone w m = (p : ℕ) × (p < w.order.size) × (m.done p ≡ false)

-- none is
abbrev pub AllDone : Work → Moment → Type 0
AllDone w m = (p : ℕ) → p < w.order.size → m.done p ≡ true

-- all goal facts stand
abbrev pub GoalStands : Work → Moment → Type 0
GoalStands w m = (f : ℕ) → w.effects.goal f ≡ true → m.rig.standing f ≡ true

-- a goal fact does not
abbrev pub GoalMissing : Work → Moment → Type 0
GoalMissing w m = (f : ℕ) × (w.effects.goal f ≡ true) × (m.rig.standing f ≡ false)

-- what the tester never meets: a refused step, a moment with steps undone, none taken and none open, an end without its
-- goal
pub record Serves (w : Work) (m : Moment) : Type 0 where
  pub no_step_refused : StepRefused w m → ⊥
  pub no_dead_end : Undone w m → m.taken ≡ None → (p : ℕ) × Open w.order m p
  pub ends_with_goal : AllDone w m → GoalStands w m

-- a step is refused, or none is undone and a goal fact is missing
abbrev pub Fails : Work → Moment → Type 0
Fails w m = StepRefused w m ⊎ (AllDone w m × GoalMissing w m)
