use Rattle.std.proofs.Common.{sym, ◌∙◌, inl, inr, ⊎_elim, arith}
use Rattle.sheet.proofs.MaskLaws.{no_part, part_between}
use Rattle.sheet.proofs.SheetRules.{sheet_rules}
use Rattle.sheet.proofs.sheet.Sheet.part_mask.Goals as goal
use Rattle.sheet.specs.Sheets.{outline}

pub returns-then-i-steps : goal.returns-then-i-steps
returns-then-i-steps c x =
    c.empty.ensures x ∙ sym (no_part (outline c.args.self.now) (sheet_rules c.args.self.now) c.args.i c.args.j (⊎_elim (λ l. inl (omega arith)) (λ e. inr e.1) c.then-i-steps.either) x)

pub returns : goal.returns
returns c x =
    cc (c.range.ensures x, part_between (outline c.args.self.now) (sheet_rules c.args.self.now) c.args.i c.args.j _ _ (omega (arith, c.if-i-steps.false)) c.span-first.ensures.part c.span-first.ensures.room x)
