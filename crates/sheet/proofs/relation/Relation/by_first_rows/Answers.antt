use Rattle.std.proofs.Common.{arith}
use Rattle.sheet.proofs.RowLaws.{rows_behind, rows_made}
use Rattle.sheet.proofs.relation.Relation.by_first_rows.Goals as goal

pub returns : goal.returns
returns g c =
    let size = c.filled.ensures.size in
    record {
      rows = rows_made _ c.filled.result c.args.count (omega (arith, size, c.requires.few)) c.filled.ensures.entries;
      past = rows_behind c.filled.result c.args.count c.empty.result (λ i l m d. c.filled.ensures.rest i l (omega (arith, size, m)) d) c.empty.ensures;
    }
