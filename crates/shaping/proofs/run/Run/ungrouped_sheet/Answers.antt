use Rattle.std.proofs.Common.{refl, arith}
use Rattle.std.proofs.lemmas.Bool.Decides.{nat_tests}
use Rattle.shaping.proofs.Outlines.{outlines_same, rules_kept}
use Rattle.shaping.proofs.run.Run.ungrouped_sheet.Goals as goal
use Rattle.orders.proofs.EditLoosen.{ungroup_keeps_rules}
use Rattle.sheet.proofs.SheetRules.{sheet_rules}
use Rattle.sheet.specs.Sheets.{outline}

pub invariant_of-result : goal.invariant_of-result
invariant_of-result c =
    let rules = ungroup_keeps_rules (outline c.args.self.now.sheet.now) (sheet_rules c.args.self.now.sheet.now) c.args.self.now.first c.args.self.now.last in
    record { numbers = c.args.self.now.sheet.now.numbers; rules = rules_kept _ _ (outlines_same _ _ refl (λ x y. refl) (λ k d. let cut = c.remove.ensures d in let old = c.row-ends.ensures d in let rows = c.with_row.ensures k d in grind (arith, nat_tests))) rules }
