use Rattle.std.proofs.Common.{◌≡◌}
use Rattle.lines.proofs.Texts.{line_rest}
use Rattle.lines.proofs.Puts.{Ahead}
use Rattle.lines.proofs.Writer.line.Given as goal

abbrev pub invariant-loop-n : goal.invariant-loop-n
invariant-loop-n l = (l.self.out.ghost_name ≡ l.initial.self.out.ghost_name) × Ahead (line_rest l.numbers 0) (line_rest l.numbers l.n-index) l.initial.self.out.now l.initial.self.at l.self.at l.self.out.now
