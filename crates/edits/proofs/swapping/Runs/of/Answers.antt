use Rattle.std.proofs.Common.{arith}
use Rattle.edits.proofs.SwapLaws.{neighbours}
use Rattle.edits.proofs.swapping.Runs.of.Goals as goal
use Rattle.orders.proofs.EditSwap.{bounds}
use Rattle.sets.proofs.Held.{contents_fit}
use Rattle.sheet.proofs.SheetRules.{sheet_rules}
use Rattle.sheet.specs.Sheets.{outline}

pub invariant_of-result : goal.invariant_of-result
invariant_of-result c =
    let rules = sheet_rules c.args.sheet.now in
    let (some, is) = c.in_ok-before.ensures in
    let parts = neighbours (outline c.args.sheet.now) rules _ _ _ _ _ _ some is c.in_ok-first.ensures c.in_ok-last.ensures in
    let b = bounds (outline c.args.sheet.now) rules _ _ _ parts in
    record { parts = parts; ahead = b.left; behind = b.right; positions = b.size; room = omega (arith, b.size, contents_fit c.args.sheet.now.steps) }
