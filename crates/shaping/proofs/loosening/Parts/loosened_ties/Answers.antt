use Rattle.std.proofs.Common.{arith}
use Rattle.std.proofs.lemmas.Bool.{and_left, cases_Bool}
use Rattle.std.proofs.lemmas.Bool.Decides.{nat_tests}
use Rattle.shaping.proofs.loosening.Parts.loosened_ties.Goals as goal
use Rattle.orders.specs.Edits.{loosened}
use Rattle.sets.proofs.Held.{contents_fit}
use Rattle.sheet.proofs.MaskLaws.{tied_within}
use Rattle.sheet.proofs.RowLaws.{made_is}
use Rattle.sheet.proofs.SheetRules.{sheet_rules}
use Rattle.sheet.specs.Sheets.{outline}

pub returns : goal.returns
returns c =
    let parts = c.args.self.now in
    let s = outline parts.sheet.now in
    let rules = sheet_rules parts.sheet.now in
    made_is _ (loosened s parts.i parts.j).tied c.by_rows.result.rows 128 c.by_rows.ensures.rows c.by_rows.ensures.past
    (λ x row l made y.
    let positions = rules.forward x y in
    let in_first = parts.part_of_i x in
    let in_second = parts.part_of_j y in
    grind (arith, nat_tests, cases_Bool (s.tied x y)))
    (λ x y l. and_left _ _ (tied_within s rules x y (omega (arith, contents_fit parts.sheet.now.steps))))
