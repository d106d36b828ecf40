use Rattle.std.proofs.Common.{◌≡◌, get_or, rules}
use Rattle.sheet.proofs.RowLaws.{row_or}
use Rattle.sheet.proofs.rows.row.Goals as goal

pub returns : goal.returns
returns g c j =
    let rows = c.args.rows.now in
    let found : c.unwrap_or.result ≡ get_or rows c.args.i c.empty.result = search rules in
    rw found (row_or rows c.args.i c.empty.result c.empty.ensures j)
