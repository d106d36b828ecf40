use Rattle.std.proofs.Common.{◌≡◌, ℕ, ◌≤◌, List, length}
use Rattle.sets.specs.Contents.{contents}
use Rattle.text.specs.Fields.{IsList}
use Rattle.text.specs.Readers.{Reads, bytes_left}
use Rattle.week.proofs.reading.numbers_of.Given as goal

-- the numbers read so far, as long as there is room for them
abbrev pub invariant-loop-number : goal.invariant-loop-number
invariant-loop-number l = (done : List ℕ) × Reads (IsList l.text) done l.entries × (length done ≤ 128 → contents l.numbers ≡ done)

abbrev pub decreases-loop-number : goal.decreases-loop-number
decreases-loop-number l = bytes_left l.entries
