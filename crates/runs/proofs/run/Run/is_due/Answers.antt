use Rattle.std.proofs.Common.{◌≤◌, ◌∙◌, arith, rules}
use Rattle.sets.proofs.Held.{contents_fit}
use Rattle.sets.proofs.Members.{members_where}
use Rattle.sets.specs.Member.{member}
use Rattle.sheet.proofs.SheetRules.{sheet_rules}
use Rattle.sheet.specs.Sheets.{outline}
use Rattle.runs.proofs.Opening.{all_due, tied_here}
use Rattle.runs.proofs.run.Run.is_due.Goals as goal

pub returns : goal.returns
returns c =
    let sheet = c.args.self.now.sheet.now in
    let s = outline sheet in
    let p = c.args.p in
    let few : c.steps.result ≤ 128 = omega (arith, contents_fit sheet.steps, c.steps.ensures) in
    let h = members_where c.steps.result c.below_where-before.result _ (λ i. s.tied i p) few c.below_where-before.ensures.test c.below_where-before.ensures.bound (λ j b l r. search rules) in
    all_due c.contains_all.result (member c.below_where-before.result.words) (λ i. s.tied i p) (member c.args.self.now.done.words)
    (λ i. h i ∙ tied_here s (sheet_rules sheet) c.steps.result p c.steps.ensures i) c.contains_all.ensures
