-- How far a book has been read, as a number.
use Rattle.std.specs.Prelude.{ℕ}
use Rattle.book.specs.declared.stage.Stage.{Stage}
use Rattle.book.specs.declared.stage.Stage.TheVariants.{Facts, Acts, Start, Steps, Edits}

abbrev pub rank_of : Stage → ℕ
rank_of Facts = 0
rank_of Acts = 1
rank_of Start = 2
rank_of Steps = 3
rank_of Edits = 4
