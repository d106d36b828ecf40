-- The number and the values of each refusal of a rig.
use Rattle.std.specs.Prelude.{◌≡◌, ℕ, Bool, List, [], ◌∷◌, Ok, Err, Result}
use Rattle.driving.specs.Meanings.{IsLowestMissing, Meaning, RigFault as Why, Stand}
use Rattle.driving.specs.Meanings.RigFault.{missing, no_step_left}
use Rattle.rigs.specs.declared.fault.RigFault.{RigFault}
use Rattle.rigs.specs.declared.fault.RigFault.TheVariants.{Missing, NoStepLeft}

abbrev pub number_of : RigFault → ℕ
number_of (Missing fact) = 12
number_of NoStepLeft = 13

-- what it names: the fact
abbrev pub values_of : RigFault → List ℕ
values_of (Missing fact) = fact ∷ []
values_of NoStepLeft = []

-- why, as the rules of rigs say it
abbrev pub why : RigFault → Why
why (Missing fact) = missing fact
why NoStepLeft = no_step_left

-- an answer, as they say it
abbrev pub told : Result (Unit {0}) RigFault → Result (Unit {0}) Why
told (Ok x) = Ok x
told (Err fault) = Err (why fault)

-- a rig of that meaning refuses an action with these needs, for that reason
abbrev pub Refuses : (ℕ → Bool) → Meaning → Why → Type 0
Refuses needs rig (missing f) = IsLowestMissing needs rig.standing f
Refuses needs rig no_step_left = Stand needs rig.standing × (rig.left ≡ 0)
