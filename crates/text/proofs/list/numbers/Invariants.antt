use Rattle.std.proofs.Common.{◌≡◌, ℕ, ◌↔◌, List}
use Rattle.text.specs.Fields.{IsNumbers, commas}
use Rattle.text.specs.Readers.{bytes_left}
use Rattle.text.proofs.Rises.{SomeLeft}
use Rattle.text.proofs.list.numbers.Given as goal

abbrev pub invariant-loop-n : goal.invariant-loop-n
invariant-loop-n l = SomeLeft l.rising l.entries l.least ↔ ((ns : List ℕ) × IsNumbers l.rising ns × (l.text ≡ commas ns))

abbrev pub decreases-loop-n : goal.decreases-loop-n
decreases-loop-n l = bytes_left l.entries
