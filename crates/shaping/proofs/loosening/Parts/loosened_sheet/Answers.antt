use Rattle.std.proofs.Common.{refl}
use Rattle.shaping.proofs.Outlines.{outlines_same, rules_kept}
use Rattle.shaping.proofs.loosening.Parts.loosened_sheet.Goals as goal
use Rattle.orders.proofs.EditLoosen.{loosen_keeps_rules}
use Rattle.sheet.proofs.SheetRules.{sheet_rules}
use Rattle.sheet.specs.Sheets.{outline}

pub invariant_of-result : goal.invariant_of-result
invariant_of-result c =
    let parts = c.args.self.now in
    let rules = loosen_keeps_rules (outline parts.sheet.now) (sheet_rules parts.sheet.now) parts.i parts.j c.requires in
    record { numbers = parts.sheet.now.numbers; rules = rules_kept _ _ (outlines_same _ _ refl c.loosened_ties.ensures (λ a b. refl)) rules }
