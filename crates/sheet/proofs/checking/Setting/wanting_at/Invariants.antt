use Rattle.std.proofs.Common.{◌≡◌, ℕ, ◌&&◌, ◌||◌}
use Rattle.orders.specs.Check.{never_put, some_below, taken_by}
use Rattle.orders.specs.Facts.{needed}
use Rattle.sets.specs.Member.{member}
use Rattle.sheet.proofs.checking.Setting.wanting_at.Given as goal
use Rattle.sheet.specs.Sheets.{outline}
use Rattle.sheet.specs.Verdicts.{effects}

abbrev pub invariant-loop-d : goal.invariant-loop-d
invariant-loop-d l =
    let s = outline l.self.effects.sheet.now in
    let e = effects l.self.effects.task.now l.self.effects.sheet.now in
    (f : ℕ) → member l.wanting.words f ≡ (needed s e l.p f && (never_put s e l.p f || some_below l.d (taken_by s e l.p f)))
