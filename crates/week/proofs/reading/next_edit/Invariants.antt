use Rattle.std.proofs.Common.{◌≤◌, length}
use Rattle.records.specs.Reading.{unread}
use Rattle.week.proofs.ReadEdits.{SameEdits}
use Rattle.week.proofs.reading.next_edit.Given as goal

abbrev pub invariant-loop-record : goal.invariant-loop-record
invariant-loop-record l = SameEdits l.initial.reader l.reader × (length (unread l.reader) ≤ length (unread l.initial.reader))

abbrev pub decreases-loop-record : goal.decreases-loop-record
decreases-loop-record l = length (unread l.reader)
