use Rattle.std.proofs.Common.{sym, arith}
use Rattle.sets.proofs.Held.{contents_fit}
use Rattle.sets.specs.Member.{member}
use Rattle.sheet.specs.Sheets.{outline}
use Rattle.runs.proofs.Opening.{barred, untouched}
use Rattle.runs.proofs.run.Run.is_barred.Goals as goal

pub returns-then-meets : goal.returns-then-meets
returns-then-meets c =
    let few = contents_fit c.args.self.now.sheet.now.steps in
    barred c.contains_all.result (outline c.args.self.now.sheet.now) (member c.args.self.now.done.words) (member c.range-block.result.words) c.args.p c.args.a c.args.b
    c.range-block.ensures (omega (arith, c.requires)) (sym c.if-not-is_block.ensures) (sym c.if-has.ensures) c.if-meets.ensures c.contains_all.ensures

pub returns-else-meets : goal.returns-else-meets
returns-else-meets c =
    let few = contents_fit c.args.self.now.sheet.now.steps in
    rw c.if-meets.false
    (untouched (outline c.args.self.now.sheet.now) (member c.args.self.now.done.words) (member c.range-block.result.words) c.args.p c.args.a c.args.b
    c.range-block.ensures (omega (arith, c.requires)) c.if-meets.ensures)
