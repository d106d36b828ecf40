use Rattle.std.proofs.Common.{sym, ◌∙◌, ⊎_elim, arith, rules}
use Rattle.std.proofs.lemmas.Bool.{cases_lt}
use Rattle.std.proofs.lemmas.Bool.Decides.{nat_tests}
use Rattle.sets.proofs.Held.{contents_fit}
use Rattle.sets.proofs.Members.{members_where}
use Rattle.sheet.proofs.MaskLaws.{leads_end, leads_tied, tied_within}
use Rattle.sheet.proofs.SheetRules.{sheet_rules}
use Rattle.sheet.proofs.sheet.Sheet.ahead.Goals as goal
use Rattle.sheet.specs.Sheets.{outline}

pub returns-then-p-n : goal.returns-then-p-n
returns-then-p-n c x =
    let few = contents_fit c.args.self.now.steps in
    let e = leads_end (outline c.args.self.now) (sheet_rules c.args.self.now) x c.args.p (c.if-p-n.true ∙ c.steps-n.ensures) in
    let b = c.below.ensures x in
    grind (arith, nat_tests)

pub returns : goal.returns
returns c x =
    let s = outline c.args.self.now in
    let few = contents_fit c.args.self.now.steps in
    let e = leads_tied s (sheet_rules c.args.self.now) x c.args.p (λ e. c.if-p-n.false (e ∙ sym c.steps-n.ensures)) in
    let h = members_where c.steps-n.result c.below_where.result _ (λ y. s.tied y c.args.p) (omega (arith, c.steps-n.ensures)) c.below_where.ensures.test c.below_where.ensures.bound (λ j b l r. search rules) x in
    ⊎_elim (λ l. grind (arith, nat_tests)) (λ l. let t = tied_within s (sheet_rules c.args.self.now) x c.args.p l in grind (arith, nat_tests)) (cases_lt x s.size)
