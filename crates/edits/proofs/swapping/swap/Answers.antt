use Rattle.std.proofs.Common.{◌≡◌, ◌-◌, false, sym, subst, rules}
use Rattle.edits.proofs.SwapSheets.{swapped_is}
use Rattle.edits.proofs.swapping.swap.Goals as goal
use Rattle.edits.specs.Swaps.{IsSwapped}
use Rattle.sheet.specs.Sheets.{outline}

pub returns : goal.returns
returns c =
    let runs = c.in_ok-runs.runs in
    let same : runs.sheet.now ≡ c.args.sheet.now = search rules in
    let is_k : runs.second ≡ c.args.k = search rules in
    let free : (outline runs.sheet.now).tied (runs.second - 1) runs.second ≡ false = rw (same, is_k) (sym c.if-is_tied.ensures) in
    subst (λ s. IsSwapped s c.args.k c.swapped_sheet.result) same (swapped_is runs.sheet.now _ _ _ _ _ is_k runs.parts free c.swapped_sheet.ensures.order c.swapped_sheet.ensures.steps)
