use Rattle.std.proofs.Common.{true, false, arith}
use Rattle.shaping.proofs.GroupLaws.{some_inside}
use Rattle.shaping.proofs.run.Run.joined.Goals as goal

pub returns-then-has : goal.returns-then-has
returns-then-has c y =
    let in_block = c.if-has.ensures in
    grind (arith, c.positions-block.ensures, c.row-row.ensures, c.union.ensures, c.requires)

pub returns-then-meets : goal.returns-then-meets
returns-then-meets c y =
    let some = some_inside _ c.args.self.now.first c.args.self.now.last _ _ c.row-row.ensures c.positions-block.ensures true c.if-meets.ensures in
    let out = c.if-has.ensures in
    grind (arith, c.positions-block.ensures, c.row-row.ensures, c.union-then-meets-2.ensures, c.union-then-meets.ensures, c.requires)

pub returns-else-meets : goal.returns-else-meets
returns-else-meets c y =
    let none = some_inside _ c.args.self.now.first c.args.self.now.last _ _ c.row-row.ensures c.positions-block.ensures false c.if-meets.ensures in
    let out = c.if-has.ensures in
    grind (arith, c.positions-block.ensures, c.row-row.ensures, c.requires)
