use Rattle.std.proofs.Common.{rules, arith}
use Rattle.shaping.proofs.run.Run.joined_ties.Goals as goal
use Rattle.orders.proofs.EditGroup.{group_keeps_rules}
use Rattle.orders.specs.Edits.{grouped}
use Rattle.sets.proofs.Held.{contents_fit}
use Rattle.sheet.proofs.MaskLaws.{tied_within}
use Rattle.sheet.proofs.RowLaws.{made_is}
use Rattle.sheet.proofs.SheetRules.{sheet_rules}
use Rattle.sheet.specs.Sheets.{outline}

pub returns : goal.returns
returns c =
    let s = outline c.args.self.now.sheet.now in
    let a = c.args.self.now.first in
    let b = c.args.self.now.last in
    made_is _ (grouped s a b).tied c.by_rows.result.rows 128 c.by_rows.ensures.rows c.by_rows.ensures.past
    (λ x row l made y. search rules)
    (λ x y l. tied_within _ (group_keeps_rules s (sheet_rules c.args.self.now.sheet.now) a b c.requires) x y (omega (arith, contents_fit c.args.self.now.sheet.now.steps)))
