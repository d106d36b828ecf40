use Rattle.std.proofs.Common.{◌≡◌, ◌+◌, length}
use Rattle.lines.specs.Text.{listing_text}
use Rattle.lines.proofs.Texts.{steps_rest}
use Rattle.lines.proofs.room_after_listing.Given as goal

abbrev pub invariant-loop-position : goal.invariant-loop-position
invariant-loop-position l = l.left + length (listing_text l.price l.steps) ≡ l.room + length (steps_rest l.steps l.position)
