-- What the fields of a sheet mean. They are taken one by one, since the sheet's own ghost fields cite this.
use Rattle.std.specs.Prelude.{ℕ, zero, suc, Bool, false, List, [], ◌∷◌, length}
use Rattle.orders.specs.Sheets.{Outline}
use Rattle.sets.specs.Contents.{contents}
use Rattle.sets.specs.Member.{member}
use Rattle.sets.specs.declared.bits.BitSet.{BitSet}
use Rattle.sets.specs.declared.list.ArrayVec.{ArrayVec}

-- whether j is in row i, and nothing is past the last row
abbrev pub in_row : {W : ℕ} → List (BitSet W) → ℕ → ℕ → Bool
in_row [] i j = false
in_row (row ∷ rows) zero j = member row.words j
in_row (row ∷ rows) (suc i) j = in_row rows i j

-- as many positions as there are steps; row i of `behind` has what i is tied before, row a of `blocks` the last positions of the blocks from a on
abbrev pub outlined : ArrayVec ℕ 128 → List (BitSet 2) → List (BitSet 2) → Outline
outlined steps behind blocks = record { size = length (contents steps); tied = in_row behind; block = in_row blocks }
