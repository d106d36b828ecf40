use Rattle.sheet.proofs.PartSpans.{NoneBelow}
use Rattle.sheet.proofs.sheet.Sheet.span.Given as goal
use Rattle.sheet.specs.Sheets.{outline}

abbrev pub invariant-loop-a : goal.invariant-loop-a
invariant-loop-a l = NoneBelow (outline l.self) l.i l.j l.a
