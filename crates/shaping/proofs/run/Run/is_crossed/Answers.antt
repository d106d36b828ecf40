use Rattle.std.proofs.Common.{◌≡◌, ℕ, true, false, rules, arith}
use Rattle.std.proofs.lemmas.Bool.Decides.{nat_tests}
use Rattle.shaping.proofs.GroupLaws.{crossed_or_can}
use Rattle.shaping.proofs.RangeLaws.{any_from_Range}
use Rattle.shaping.proofs.run.Run.is_crossed.Goals as goal
use Rattle.shaping.specs.Answers.{crosses}
use Rattle.sets.proofs.Held.{contents_fit}
use Rattle.sheet.proofs.SheetRules.{sheet_rules}
use Rattle.sheet.specs.Sheets.{outline}

pub returns : goal.returns
returns c =
    let s = outline c.args.self.now.sheet.now in
    let held = sheet_rules c.args.self.now.sheet.now in
    let few = contents_fit c.args.self.now.sheet.now.steps in
    let a = c.args.self.now.first in
    let b = c.args.self.now.last in
    crossed_or_can s held few a b c.args.self.now.order.0 c.args.self.now.order.1 _
    (any_from_Range _ _ _ _
    (λ k. (d : ℕ) × (s.block k d ≡ true) × (crosses a b k d ≡ true))
    (λ k. (d : ℕ) → s.block k d ≡ true → crosses a b k d ≡ false)
    c.any.ensures.ran
    (λ k q m. grind (arith))
    (λ k q m. (search rules, λ d h. let p = held.proper k d h in grind (arith, nat_tests))))
