use Rattle.std.proofs.Common.{ℕ, List}
use Rattle.text.specs.Fields.{IsList}
use Rattle.text.specs.Readers.{Reads, bytes_left}
use Rattle.book.specs.Tasks.{Has}
use Rattle.book.specs.Weeks.{Known}
use Rattle.book.proofs.entries.known_facts.Given as goal

-- the numbers read so far are known facts, and the set has just these
abbrev pub invariant-loop-n : goal.invariant-loop-n
invariant-loop-n l = (done : List ℕ) × Reads (IsList l.text) done l.entries × Known l.task.facts done × Has l.set done

abbrev pub decreases-loop-n : goal.decreases-loop-n
decreases-loop-n l = bytes_left l.entries
