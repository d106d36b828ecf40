-- What the calls make of a run's state.
use Rattle.std.specs.Prelude.{◌≡◌, ℕ, Ok, Err, Result, Some, None, Option}
use Rattle.runs.specs.declared.fault.RunFault.{RunFault}
use Rattle.runs.specs.declared.fault.RunFault.TheVariants.{NotOpen, NoSlip}
use Rattle.runs.specs.declared.state.Call.{Call}
use Rattle.runs.specs.declared.state.Call.TheVariants.{Take, Done, PutBack}
use Rattle.runs.specs.declared.state.State.{State}
use Rattle.runs.specs.declared.state.State.TheVariants.{Hand, Taken}

-- the position that is taken
abbrev pub taken_of : State → Option ℕ
taken_of Hand = None
taken_of (Taken p) = Some p

-- what a call with this slip makes of the state
abbrev pub Frees : State → Option ℕ → Result (State × ℕ) RunFault → Type 0
Frees state slip (Ok next) = (next.0 ≡ Hand) × (slip ≡ Some next.1) × (taken_of state ≡ Some next.1)
Frees state slip (Err fault) = (fault ≡ NoSlip) × ((p : ℕ) → slip ≡ Some p → taken_of state ≡ Some p → ⊥)

abbrev pub Moves : State → Call → Result (State × ℕ) RunFault → Type 0
Moves state (Take p) (Ok next) = (state ≡ Hand) × (next ≡ (Taken p, p))
Moves state (Take p) (Err fault) = (fault ≡ NotOpen) × (taken_of state ≡ None → ⊥)
Moves state (Done slip) r = Frees state slip r
Moves state (PutBack slip) r = Frees state slip r

-- what the slip bears that `take` gives with its answer
abbrev pub borne : ℕ → Result (Unit {0}) RunFault → Option ℕ
borne p (Ok x) = Some p
borne p (Err fault) = None
