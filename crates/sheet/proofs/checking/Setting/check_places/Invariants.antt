use Rattle.std.proofs.Common.{◌≡◌, ℕ, ◌<◌, false}
use Rattle.orders.specs.Check.{missing}
use Rattle.sets.specs.Member.{member}
use Rattle.sheet.proofs.checking.Setting.check_places.Given as goal
use Rattle.sheet.specs.Sheets.{outline}
use Rattle.sheet.specs.Verdicts.{effects}

abbrev pub invariant-loop-place : goal.invariant-loop-place
invariant-loop-place l = (p f : ℕ) → p < l.place → missing (outline l.self.effects.sheet.now) (effects l.self.effects.task.now l.self.effects.sheet.now) p f ≡ false

abbrev pub invariant-loop-fact : goal.invariant-loop-fact
invariant-loop-fact l = (f : ℕ) → f < l.fact → member l.wanting.words f ≡ false
