use Rattle.std.proofs.Common.{◌≡◌, ℕ, ◌&&◌, ◌||◌, ap, ◌∙◌, arith}
use Rattle.orders.specs.Check.{leads, never_put, some_below, taken_by}
use Rattle.orders.specs.Facts.{needed}
use Rattle.sets.specs.Member.{member}
use Rattle.sheet.proofs.Effects.{below_more, below_same, first_wanting_lem, more_wanting}
use Rattle.sheet.proofs.checking.Setting.wanting_at.Goals as goal
use Rattle.sheet.specs.Rows.{in_row}
use Rattle.sheet.specs.Sheets.{outline}
use Rattle.sheet.specs.Verdicts.{effects}

pub loop-d-init : goal.loop-d-init
loop-d-init c f =
    let setting = c.args.self.now in
    let s = outline setting.effects.sheet.now in
    let e = effects setting.effects.task.now setting.effects.sheet.now in
    let adds = in_row setting.adds in
    let ahead = member c.ahead-ahead.result.words in
    let brought : some_below s.size (λ x. adds x f && ahead x) ≡ some_below s.size (λ x. e.adds x f && leads s x c.args.p) =
    below_same s.size _ _ (λ x _. cc (setting.added x f, c.ahead-ahead.ensures x)) in
    let counted = ap (λ (n : ℕ). some_below n (λ x. adds x f && ahead x)) c.steps-n.ensures in
    cc (c.minus-wanting.ensures f, c.needed-needs.ensures f, c.union-brought.ensures f, c.supplied.ensures f, first_wanting_lem (needed s e c.args.p f) (e.start f) (some_below s.size (λ x. e.adds x f && leads s x c.args.p)))

pub loop-d-preserved : goal.loop-d-preserved
loop-d-preserved c f =
    let setting = c.args.self.now in
    let s = outline setting.effects.sheet.now in
    let e = effects setting.effects.task.now setting.effects.sheet.now in
    let p = c.args.p in
    let d = c.loop-d.d in
    cc (c.union-wanting.ensures f, c.loop-d.invariant f, c.lost.ensures f, c.needed-needs.ensures f, below_more (taken_by s e p f) d, more_wanting (needed s e p f) (never_put s e p f) (some_below d (taken_by s e p f)) (taken_by s e p f d))

pub returns : goal.returns
returns c f =
    let setting = c.args.self.now in
    let s = outline setting.effects.sheet.now in
    let e = effects setting.effects.task.now setting.effects.sheet.now in
    let p = c.args.p in
    let all : c.loop-d.d ≡ s.size = omega (arith, c.loop-d-test.false, c.steps-n.ensures) in
    c.loop-d.invariant f ∙ ap (λ (n : ℕ). needed s e p f && (never_put s e p f || some_below n (taken_by s e p f))) all
