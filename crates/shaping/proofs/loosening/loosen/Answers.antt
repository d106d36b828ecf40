use Rattle.std.proofs.Common.{sym, refl, inl, inr}
use Rattle.shaping.proofs.CheckLaws.{adopted}
use Rattle.shaping.proofs.loosening.loosen.Goals as goal

pub returns-then-is_tied_between : goal.returns-then-is_tied_between
returns-then-is_tied_between c =
    let (same, first, second) = c.of-parts.ensures in
    (inr (inr (inl (sym c.if-not-is_tied.ensures, rw (same, first, second) at c.if-is_tied_between.ensures, refl))), refl)

pub returns : goal.returns
returns c =
    let (same, first, second) = c.of-parts.ensures in
    let tied = sym c.if-not-is_tied.ensures in
    let can = rw (same, first, second) at c.if-is_tied_between.ensures in
    let asked = c.loosened_sheet-asked.ensures in
    adopted c.args.task.now c.args.sheet.now c.loosened_sheet-asked.result _ (rw same at asked.steps) (rw (same, first, second) at asked.order) c.adopt.result _ _ _ c.adopt.ensures
    (λ k. (tied, can, k)) (λ fault r. inr (inr (inr (tied, can, r))))
