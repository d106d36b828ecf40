use Rattle.shaping.proofs.LoosenLaws.{between_covered}
use Rattle.shaping.proofs.loosening.Parts.is_tied_between.Goals as goal
use Rattle.sets.specs.Member.{member}
use Rattle.sheet.proofs.SheetRules.{sheet_rules}
use Rattle.sheet.specs.Sheets.{outline}

pub returns : goal.returns
returns c =
    let parts = c.args.self.now in
    between_covered (outline parts.sheet.now) (sheet_rules parts.sheet.now) parts.i parts.j c.requires
    (member c.union.result.words) (member c.intersection-between.result.words)
    (λ x. cc (c.union.ensures x, parts.part_of_i x, parts.part_of_j x))
    (λ x. cc (c.intersection-between.ensures x, c.row.ensures x, c.ahead.ensures x))
    c.contains_all.result c.contains_all.ensures
