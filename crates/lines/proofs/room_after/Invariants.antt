use Rattle.std.proofs.Common.{◌≡◌, ◌+◌, length}
use Rattle.lines.specs.Text.{line_text}
use Rattle.lines.proofs.Texts.{line_rest}
use Rattle.lines.proofs.room_after.Given as goal

abbrev pub invariant-loop-n : goal.invariant-loop-n
invariant-loop-n l = l.left + length (line_text l.word l.numbers) ≡ l.room + length (line_rest l.numbers l.n-index)
