use Rattle.std.proofs.Common.{refl, ℕ, sym, ⊎_elim, arith}
use Rattle.std.proofs.lemmas.Bool.{cases_eq, cases_lt}
use Rattle.sets.proofs.Members.{member_room}
use Rattle.sheet.proofs.Lowest.{good_from, lowest_from}
use Rattle.sheet.proofs.SheetRules.{sheet_rules}
use Rattle.sheet.proofs.checking.Setting.check_places.Goals as goal
use Rattle.sheet.specs.Sheets.{outline}
use Rattle.sheet.specs.Verdicts.{effects}
use Rattle.std.proofs.Common.{◌∙◌}

pub loop-place-preserved : goal.loop-place-preserved
loop-place-preserved c p f l =
    let set = c.wanting_at-wanting.result in
    let none = ⊎_elim (c.loop-fact.invariant f) (λ m. member_room set f (omega (arith, c.loop-fact-test.false))) (cases_lt f c.loop-fact.fact) in
    let here = sym (c.wanting_at-wanting.ensures f) ∙ none in
    ⊎_elim (λ e. rw e here) (λ n. c.loop-place.invariant p f (omega arith)) (cases_eq p c.loop-place.place)

pub returns-then-has : goal.returns-then-has
returns-then-has c =
    let effects-now = c.args.self.now.effects in
    let told = λ (f : ℕ). sym (c.wanting_at-wanting.ensures f) in (
      c.loop-place.place,
      (
        c.loop-fact.fact,
        refl,
        lowest_from (outline effects-now.sheet.now) (sheet_rules effects-now.sheet.now) (effects effects-now.task.now effects-now.sheet.now) c.loop-place.place c.loop-fact.fact
            (told c.loop-fact.fact ∙ sym c.if-has.ensures) c.loop-place.invariant (λ f l. told f ∙ c.loop-fact.invariant f l),
      ),
    )

pub returns-after-loop-place : goal.returns-after-loop-place
returns-after-loop-place c =
    let effects-now = c.args.self.now.effects in
    good_from (outline effects-now.sheet.now) (sheet_rules effects-now.sheet.now) (effects effects-now.task.now effects-now.sheet.now)
    (λ p f l. c.loop-place.invariant p f (omega (arith, c.loop-place-test.false, c.steps-place-end.ensures)))
