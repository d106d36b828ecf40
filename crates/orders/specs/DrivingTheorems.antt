-- What is proved of driving.
use Rattle.std.specs.Prelude.{◌≡◌, ℕ, ◌<◌, List, ◌++◌, length}
use Rattle.orders.specs.Driving.{Driven, Open}
use Rattle.orders.specs.Running.{RunningOrder}
use Rattle.orders.specs.Sheets.{Outline, Rules}

-- no driving comes to a dead end: while positions are undone, one of them is open
abbrev pub NoDeadEnd : Type 0
NoDeadEnd = (s : Outline) → Rules s → (done : List ℕ) → Driven s done → length done < s.size → (p : ℕ) × Open s done p

-- a driving to the end is a running order
abbrev pub DrivingEndsRunning : Type 0
DrivingEndsRunning = (s : Outline) → Rules s → (order : List ℕ) → Driven s order → length order ≡ s.size → RunningOrder s order

-- every running order can be driven, and is then driven to the end
abbrev pub RunningIsDriven : Type 0
RunningIsDriven = (s : Outline) → Rules s → (order : List ℕ) → RunningOrder s order → Driven s order × (length order ≡ s.size)

-- every driving is the front of a running order
abbrev pub DrivingIsFront : Type 0
DrivingIsFront = (s : Outline) → Rules s → (done : List ℕ) → Driven s done → (rest : List ℕ) × RunningOrder s (done ++ rest)
