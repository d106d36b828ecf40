-- The text before the cursor's next line end is a line, or it is none.
use Rattle.std.proofs.Common.{refl, rules}
use Rattle.text.specs.Fields.{Cut}
use Rattle.records.proofs.NextLine.{no_end, no_record, moved, front_line, refused}
use Rattle.records.proofs.reader.Reader.next.Goals as goal

pub returns-in_err-line : goal.returns-in_err-line
returns-in_err-line c = refused _ c.args.self.now _ _ c.rest-rest.ensures c.if-is_empty.ensures (no_end _ (search rules)) c.from_residual.ensures.1

pub returns-in_err-record : goal.returns-in_err-record
returns-in_err-record c =
    let cut : Cut 10 c.rest-rest.result.now c.in_ok-line.line.now c.in_ok-line.field-0-1.now = search rules in
    refused _ c.args.self.now _ _ c.rest-rest.ensures c.if-is_empty.ensures (no_record _ _ _ cut c.in_err-record.ensures) c.from_residual-in_err-record.ensures.1

pub returns : goal.returns
returns c =
    let cut : Cut 10 c.rest-rest.result.now c.in_ok-line.line.now c.in_ok-line.field-0-1.now = search rules in
    let r = c.in_ok-record.ensures in
    (r.0, r.1, r.3, front_line _ _ _ _ _ _ c.rest-rest.ensures cut.0 r.2 (moved _ _ _ _ _ c.rest-rest.ensures cut.0), refl)
