use Rattle.std.proofs.Common.{arith, rules}
use Rattle.edits.proofs.SwapLaws.{comes_past}
use Rattle.edits.proofs.swapping.Runs.moved_ties.Goals as goal
use Rattle.orders.specs.Edits.{comes, swapped}
use Rattle.sheet.proofs.RowLaws.{made_is, row_past}
use Rattle.sheet.specs.Sheets.{outline}

pub returns : goal.returns
returns c =
    let runs = c.args.self.now in
    let behind = c.args.self.now.sheet.now.behind in
    made_is _ (swapped (outline c.args.self.now.sheet.now) runs.first runs.second runs.last).tied c.by_rows.result.rows 128 c.by_rows.ensures.rows c.by_rows.ensures.past (λ i set l made j. search rules)
    (λ i j l. let e = comes_past runs.first runs.second runs.last runs.ahead runs.behind i (omega (arith, runs.room)) in row_past behind.rows (comes runs.first runs.second runs.last i) (omega (arith, e, behind.size)) _)
