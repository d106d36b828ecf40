-- The sheets so far are counted.
use Rattle.std.proofs.Common.{◌≡◌}
use Rattle.comparing.proofs.tally.tallied.Given as goal

abbrev pub invariant-loop-sheet : goal.invariant-loop-sheet
invariant-loop-sheet g l = g.T.Tally.counted l.tally ≡ l.sheet-counter
