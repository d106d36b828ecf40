use Rattle.std.proofs.Common.{length}
use Rattle.records.specs.Reading.{unread}
use Rattle.book.proofs.Progress.{Progress}
use Rattle.book.proofs.load.gather.Given as goal

abbrev pub invariant-loop-next : goal.invariant-loop-next
invariant-loop-next l = Progress l.book l.reader l.line l.loader

abbrev pub decreases-loop-next : goal.decreases-loop-next
decreases-loop-next l = length (unread l.reader)
