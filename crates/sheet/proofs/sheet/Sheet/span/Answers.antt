use Rattle.std.proofs.Common.{arith}
use Rattle.sets.proofs.Held.{contents_fit}
use Rattle.sets.proofs.Members.{member_lt}
use Rattle.sets.specs.Member.{member}
use Rattle.sheet.proofs.PartSpans.{none_first, none_more, part_found, part_is_step}
use Rattle.sheet.proofs.RowLaws.{row_lt}
use Rattle.sheet.proofs.SheetRules.{sheet_rules}
use Rattle.sheet.proofs.sheet.Sheet.span.Goals as goal
use Rattle.sheet.specs.Sheets.{outline}

pub loop-a-init : goal.loop-a-init
loop-a-init c = none_first (outline c.args.self.now) (row_lt c.args.self.now.blocks.rows) c.args.i c.args.j _ _ c.limits-low.ensures

pub returns-in-Some : goal.returns-in-Some
returns-in-Some c =
    let found = c.in-Some.ensures in
    record {
      part = part_found (outline c.args.self.now) (row_lt c.args.self.now.blocks.rows) c.args.i c.args.j _ _ c.limits-low.ensures
          c.loop-a.a c.loop-a.auto.a (omega arith) (member c.intersection.result.words)
          (λ b. cc (c.intersection.ensures b, c.row.ensures b, c.range-reaching.ensures b))
          (sheet_rules c.args.self.now) c.loop-a.invariant c.in-Some.b found.0 found.1;
      room = member_lt c.intersection.result c.in-Some.b found.0;
    }

pub loop-a-preserved : goal.loop-a-preserved
loop-a-preserved c =
    none_more (outline c.args.self.now) (row_lt c.args.self.now.blocks.rows) c.args.i c.args.j _ _ c.limits-low.ensures
    c.loop-a.a c.loop-a.auto.a (omega arith) (member c.intersection.result.words)
    (λ b. cc (c.intersection.ensures b, c.row.ensures b, c.range-reaching.ensures b))
    c.loop-a.invariant c.in_default.ensures

pub returns : goal.returns
returns c = record {
  part = part_is_step (outline c.args.self.now) (sheet_rules c.args.self.now) c.args.i c.args.j c.requires.1
      (λ a b l. c.loop-a.invariant a b (omega (arith, c.loop-a-test.false)));
  room = omega (arith, c.requires.0, contents_fit c.args.self.now.steps);
}
