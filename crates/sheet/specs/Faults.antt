-- The number and the values of each refusal.
use Rattle.std.specs.Prelude.{ℕ, List, [], ◌∷◌}
use Rattle.sheet.specs.declared.fault.SheetFault.{SheetFault}
use Rattle.sheet.specs.declared.fault.SheetFault.TheVariants.{UnknownAction, WantingFact, TooLong}

abbrev pub number_of : SheetFault → ℕ
number_of (UnknownAction action) = 2
number_of (WantingFact place fact) = 3
number_of TooLong = 4

-- what it names: the action, or the place and the fact
abbrev pub values_of : SheetFault → List ℕ
values_of (UnknownAction action) = action ∷ []
values_of (WantingFact place fact) = place ∷ fact ∷ []
values_of TooLong = []
