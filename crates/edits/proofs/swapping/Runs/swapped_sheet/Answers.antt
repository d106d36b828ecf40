use Rattle.std.proofs.Common.{ℕ, ◌<◌, sym, subst}
use Rattle.shaping.proofs.Outlines.{rules_kept}
use Rattle.edits.proofs.SwapLists.{same_get_or}
use Rattle.edits.proofs.SwapSheets.{order_is}
use Rattle.edits.proofs.swapping.Runs.swapped_sheet.Goals as goal
use Rattle.orders.proofs.EditSwap.{swap_keeps_rules}
use Rattle.sheet.proofs.SheetRules.{sheet_rules}
use Rattle.sheet.specs.Sheets.{actions, outline}

pub invariant_of-result : goal.invariant_of-result
invariant_of-result c =
    let runs = c.args.self.now in
    let before = runs.sheet.now in
    let order = order_is before c.moved_steps.result _ _ _ _ _ runs.parts c.moved_steps.ensures c.moved_ties.ensures c.moved_blocks.ensures in record {
      numbers = λ x. subst (λ (v : ℕ). v < 128) (sym (same_get_or (actions before) _ _ x (c.moved_steps.ensures x))) (before.numbers _);
      rules = rules_kept _ _ order (swap_keeps_rules (outline before) (sheet_rules before) _ _ _ runs.parts c.requires);
    }

pub returns-clause-order : goal.returns-clause-order
returns-clause-order c = order_is c.args.self.now.sheet.now c.moved_steps.result _ _ _ _ _ c.args.self.now.parts c.moved_steps.ensures c.moved_ties.ensures c.moved_blocks.ensures
