use Rattle.std.proofs.Common.{◌≡◌}
use Rattle.lines.proofs.Texts.{steps_rest}
use Rattle.lines.proofs.Puts.{Ahead}
use Rattle.lines.proofs.listing.Given as goal

abbrev pub invariant-loop-position : goal.invariant-loop-position
invariant-loop-position l = (l.writer.out.ghost_name ≡ l.initial.writer.out.ghost_name) × Ahead (steps_rest l.steps 0) (steps_rest l.steps l.position) l.initial.writer.out.now l.initial.writer.at l.writer.at l.writer.out.now
