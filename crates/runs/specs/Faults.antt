-- The number of each refusal of a run.
use Rattle.std.specs.Prelude.{ℕ, List, [], ◌∷◌, Ok, Err, Result}
use Rattle.driving.specs.Calls.{RunFault as Why}
use Rattle.driving.specs.Calls.RunFault.{no_slip, not_open, position, refused, unknown}
use Rattle.rigs.specs.Faults.{number_of as number_of_rig, values_of as values_of_rig, why as why_of_rig}
use Rattle.runs.specs.declared.fault.RunFault.{RunFault}
use Rattle.runs.specs.declared.fault.RunFault.TheVariants.{NoPosition, NotOpen, NoSlip, UnknownAction, Rig}

abbrev pub number_of : RunFault → ℕ
number_of NoPosition = 1
number_of NotOpen = 10
number_of NoSlip = 11
number_of UnknownAction = 2
number_of (Rig at) = number_of_rig at.fault

-- what it names: the position, and then what the rig's refusal names
abbrev pub values_of : RunFault → List ℕ
values_of NoPosition = []
values_of NotOpen = []
values_of NoSlip = []
values_of UnknownAction = []
values_of (Rig at) = at.position ∷ values_of_rig at.fault

-- why, as the rules of runs say it
abbrev pub why : RunFault → Why
why NoPosition = position
why NotOpen = not_open
why NoSlip = no_slip
why UnknownAction = unknown
why (Rig at) = refused at.position (why_of_rig at.fault)

-- an answer, as they say it
abbrev pub told : Result (Unit {0}) RunFault → Result (Unit {0}) Why
told (Ok x) = Ok x
told (Err fault) = Err (why fault)
