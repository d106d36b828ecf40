use Rattle.orders.specs.Check.{together}
use Rattle.sets.specs.Member.{member}
use Rattle.sheet.proofs.MaskLaws.{forced_within}
use Rattle.sheet.proofs.SheetRules.{sheet_rules}
use Rattle.sheet.proofs.sheet.Sheet.forced.Goals as goal
use Rattle.sheet.specs.Sheets.{outline}

pub returns : goal.returns
returns c x =
    let s = outline c.args.self.now in
    cc (c.intersection.ensures x, c.union-behind.ensures x, c.union.ensures x, c.row.ensures x, c.part_mask.ensures x, c.part_mask-2.ensures x, forced_within s (sheet_rules c.args.self.now) c.args.d x (together s x c.args.p c.args.d) (together s x c.args.d c.args.p) (member c.args.ahead.now.words x))
