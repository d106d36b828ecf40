use Rattle.std.proofs.Common.{arith, rules}
use Rattle.edits.proofs.SwapLaws.{blocks_past}
use Rattle.edits.proofs.swapping.Runs.moved_blocks.Goals as goal
use Rattle.orders.specs.Edits.{swapped}
use Rattle.sheet.proofs.RowLaws.{made_is, row_past}
use Rattle.sheet.specs.Sheets.{outline}

pub returns : goal.returns
returns c =
    let runs = c.args.self.now in
    let s = outline c.args.self.now.sheet.now in
    let blocks = c.args.self.now.sheet.now.blocks in
    made_is _ (swapped s runs.first runs.second runs.last).block c.by_rows.result.rows 128 c.by_rows.ensures.rows c.by_rows.ensures.past (λ i set l made j. search rules)
    (blocks_past s (λ i j l. row_past blocks.rows i (omega (arith, blocks.size)) j) runs.first runs.second runs.last runs.ahead runs.behind runs.room)
