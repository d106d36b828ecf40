-- What a sheet is.
use Rattle.std.specs.Prelude.{ℕ, List}
use Rattle.orders.specs.Sheets.{Outline}
use Rattle.sets.specs.Contents.{contents}
use Rattle.sheet.specs.Rows.{outlined}
use Rattle.sheet.specs.declared.sheet.Sheet.{Sheet}

-- its steps' action numbers, first to last
abbrev pub actions : Sheet → List ℕ
actions sheet = contents sheet.steps

-- its positions, ties and blocks
abbrev pub outline : Sheet → Outline
outline sheet = outlined sheet.steps sheet.behind.rows sheet.blocks.rows
