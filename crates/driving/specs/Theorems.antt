-- What is proved of drivings.
use Rattle.std.specs.Prelude.{◌≡◌, ℕ, ◌<◌, true, Ok}
use Rattle.orders.specs.Facts.{Good, Wanting}
use Rattle.orders.specs.Sheets.{Rules}
use Rattle.driving.specs.Calls.{Moment, TakesAndDoes, Work}
use Rattle.driving.specs.Drivings.{AllDone, AsLaid, Begins, Drives, Fails, GoalStands, Serves}
use Rattle.driving.specs.Meanings.{Meaning}

-- the task has the action of every step
abbrev pub AllKnown : Work → Type 0
AllKnown w = (p : ℕ) → p < w.order.size → w.known p ≡ true

-- over a good sheet every driving serves
abbrev pub GoodSheetServes : Type 0
GoodSheetServes = (w : Work) → Rules w.order → AllKnown w → Good w.order w.effects →
    (rig : Meaning) → Begins w rig → (m : Moment) → Drives w rig m → Serves w m

-- the steps can be done in home order: wherever that has led, the next can be taken and done, and after the last all
-- goal facts stand
pub record ServesAsLaid (w : Work) (rig : Meaning) : Type 0 where
  pub goes_on : (k : ℕ) (m : Moment) → AsLaid w rig k m → k < w.order.size → (after : Moment)
      × TakesAndDoes w m k (Ok tt) after
  pub ends : (m : Moment) → AsLaid w rig w.order.size m → AllDone w m × GoalStands w m

-- so they can over a good sheet
abbrev pub GoodSheetServesAsLaid : Type 0
GoodSheetServesAsLaid = (w : Work) → Rules w.order → AllKnown w → Good w.order w.effects → (rig : Meaning) →
    Begins w rig → ServesAsLaid w rig

-- every fact that a step needs is below n
abbrev pub NeedsBelow : Work → ℕ → Type 0
NeedsBelow w n = (p f : ℕ) → p < w.order.size → w.effects.needs p f ≡ true → f < n

-- some driving fails, on a rig of that meaning
abbrev pub SomeDrivingFails : Work → Meaning → Type 0
SomeDrivingFails w rig = (m : Moment) × Drives w rig m × Fails w m

-- over a sheet that is wanting a fact, some driving fails, on every such rig
abbrev pub BadSheetFails : Type 0
BadSheetFails = (w : Work) → Rules w.order → AllKnown w → (n : ℕ) → NeedsBelow w n → (p f : ℕ) →
    Wanting w.order w.effects p f →
    (rig : Meaning) → Begins w rig → SomeDrivingFails w rig
