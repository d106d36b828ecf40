use Rattle.std.proofs.Common.{◌||◌, ap, ◌∙◌}
use Rattle.edits.proofs.SwapLaws.{ends_are}
use Rattle.edits.proofs.swapping.Runs.moved_ends.Goals as goal
use Rattle.orders.specs.Edits.{comes}
use Rattle.sets.specs.Member.{member}
use Rattle.sheet.proofs.RowLaws.{row_lt}
use Rattle.sheet.specs.Sheets.{outline}

pub returns : goal.returns
returns c d =
    let runs = c.args.self.now in
    let from = comes runs.first runs.second runs.last d in
    ends_are (outline c.args.self.now.sheet.now) (row_lt c.args.self.now.sheet.now.blocks.rows) runs.first runs.second runs.last runs.ahead runs.behind runs.room c.args.c d _ c.source-from.ensures _ _ _ _ _ _ _ _
    (c.union.ensures d ∙ ap (λ t. t || member c.intersection-staying.result.words d) (c.minus.ensures d)) (c.carried.ensures d) (c.minus-moving.ensures from) (c.row.ensures from) (c.covering.ensures from)
    (c.intersection-staying.ensures d) (c.row-2.ensures d) (c.covering-both.ensures d)
