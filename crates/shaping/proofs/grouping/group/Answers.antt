use Rattle.std.proofs.Common.{◌≡◌, false, rules, subst}
use Rattle.shaping.proofs.GroupLaws.{grouped_is}
use Rattle.shaping.proofs.grouping.group.Goals as goal
use Rattle.shaping.specs.Answers.{IsGrouped}
use Rattle.sheet.specs.Sheets.{outline}

pub returns : goal.returns
returns c =
    let run = c.in_ok-run.run' in
    let same : run.sheet.now ≡ c.args.sheet.now = search rules in
    let first : run.first ≡ c.args.a = search rules in
    let last : run.last ≡ c.args.b = search rules in
    let free : (outline run.sheet.now).block run.first run.last ≡ false = rw (same, first, last) (cc) in
    rw (← first, ← last) (subst (λ s. IsGrouped s run.first run.last c.grouped_sheet.result) same (grouped_is run.sheet.now _ run.first run.last c.if-is_crossed.ensures free c.grouped_sheet.ensures.steps c.grouped_sheet.ensures.order))
