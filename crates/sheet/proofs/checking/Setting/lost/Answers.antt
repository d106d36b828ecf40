use Rattle.std.proofs.Common.{◌≡◌, ℕ, true, false, ◌&&◌, eqb, ◌⊎◌, sym, ap, ◌∙◌, inl, inr, arith}
use Rattle.std.proofs.lemmas.Bool.{eq-eqb, ne_eqb, or_left}
use Rattle.std.proofs.lemmas.Bool.Decides.{nat_tests}
use Rattle.orders.specs.Check.{forced, leads, some_below, takes}
use Rattle.sets.specs.Member.{member}
use Rattle.sheet.proofs.Effects.{below_same, is_lost, not_lost}
use Rattle.sheet.proofs.MaskLaws.{forced_is}
use Rattle.sheet.proofs.checking.Setting.lost.Goals as goal
use Rattle.sheet.proofs.checking.Setting.lost.Goals.{then-is_empty-via-then-is_empty, then-is_empty-via-else-is_empty+then-d-p, then-is_empty-via-else-is_empty+else-d-p+then-is_tied}
use Rattle.sheet.specs.Rows.{in_row}
use Rattle.sheet.specs.Sheets.{outline}
use Rattle.sheet.specs.Verdicts.{effects}

pub returns-then-is_empty : goal.returns-then-is_empty
returns-then-is_empty c f =
    let setting = c.args.self.now in
    let s = outline setting.effects.sheet.now in
    let e = effects setting.effects.task.now setting.effects.sheet.now in
    let d = c.args.d in
    let p = c.args.p in
    let needed = member c.args.needs.now.words f in
    let taken : member c.intersection-taken.result.words f ≡ (needed && takes e d f) = cc (c.intersection-taken.ensures f, c.row.ensures f, setting.taken d f) in
    let why : ((needed && takes e d f) ≡ false) ⊎ ((eqb d p ≡ true) ⊎ (leads s p d ≡ true)) = elim c.then-is_empty.branch [
      | then-is_empty-via-then-is_empty w ↦ inl (sym taken ∙ w.if-is_empty.ensures f)
      | then-is_empty-via-else-is_empty+then-d-p w ↦ inr (inl (eq-eqb d p w.if-d-p.true))
      | then-is_empty-via-else-is_empty+else-d-p+then-is_tied w ↦ inr (inr (or_left _ _ (sym w.if-is_tied.ensures)))
    ] in
    c.empty.ensures f ∙ sym (not_lost needed (takes e d f) (eqb d p) (leads s p d) _ why)

pub returns : goal.returns
returns c f =
    let setting = c.args.self.now in
    let s = outline setting.effects.sheet.now in
    let e = effects setting.effects.task.now setting.effects.sheet.now in
    let d = c.args.d in
    let p = c.args.p in
    let needed = member c.args.needs.now.words f in
    let between = member c.forced-forced.result.words in
    let adds = in_row setting.adds in
    let (position, ahead) = c.requires in
    let back : some_below s.size (λ x. adds x f && between x) ≡ some_below s.size (λ x. e.adds x f && forced s d p x) = below_same s.size _ _
    (λ x l. cc (setting.added x f, forced_is s d p x between (member c.args.ahead.now.words) c.forced-forced.ensures ahead l)) in
    let loose : leads s p d ≡ false = let t = c.if-is_tied.ensures in grind (arith, nat_tests) in
    let counted = ap (λ (n : ℕ). some_below n (λ x. adds x f && between x)) c.steps.ensures in
    cc (c.minus.ensures f, c.intersection-taken.ensures f, c.row.ensures f, setting.taken d f, c.supplied.ensures f, is_lost needed (takes e d f) (eqb d p) (leads s p d) (some_below s.size (λ x. e.adds x f && forced s d p x)) (ne_eqb d p c.if-d-p.false) loose)
