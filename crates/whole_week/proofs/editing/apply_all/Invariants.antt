use Rattle.std.proofs.Common.{map, take}
use Rattle.edits.specs.Applying.{change_of}
use Rattle.whole_week.proofs.editing.apply_all.Given as goal
use Rattle.whole_week.specs.Week.{Edits}

-- the edits so far are carried out
abbrev pub invariant-loop-edit : goal.invariant-loop-edit
invariant-loop-edit g l = Edits (g.T.Tariff.prices l.tariff) l.task l.fn.sheet (map change_of (take l.edit-index l.edits)) l.saved l.sheet
