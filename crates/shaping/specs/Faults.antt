-- The number and the values of each refusal.
use Rattle.std.specs.Prelude.{ℕ, List, []}
use Rattle.shaping.specs.declared.fault.EditFault.{EditFault}
use Rattle.shaping.specs.declared.fault.EditFault.TheVariants.{Position, Block, Tie, Between, Empty, NotCheaper, Sheet}
use Rattle.sheet.specs.Faults as sheets

-- the number that it goes by
abbrev pub number_of : EditFault → ℕ
number_of Position = 1
number_of Block = 5
number_of Tie = 6
number_of Between = 7
number_of Empty = 8
number_of NotCheaper = 9
number_of (Sheet fault) = sheets.number_of fault

-- what it names: only the refusal of a sheet names anything
abbrev pub values_of : EditFault → List ℕ
values_of Position = []
values_of Block = []
values_of Tie = []
values_of Between = []
values_of Empty = []
values_of NotCheaper = []
values_of (Sheet fault) = sheets.values_of fault
