use Rattle.std.proofs.Common.{refl, arith}
use Rattle.std.proofs.lemmas.Result.{err_from_is_err_and}
use Rattle.edits.proofs.ReplaceAnswers.{accepted, not_cheaper, refused_by_check}
use Rattle.edits.proofs.replacing.replace.Goals as goal

pub returns-then-before-after : goal.returns-then-before-after
returns-then-before-after g c = (
  not_cheaper c.args.task.now c.args.sheet.now _ _ _ (g.T.Tariff.prices c.args.tariff.now) _ c.in_ok-asked.ensures (omega (arith, c.if-before-after.true, c.price-before.ensures, c.price-after.ensures)),
  refl,
)

pub returns-in_err-adopt : goal.returns-in_err-adopt
returns-in_err-adopt g c =
    let p = err_from_is_err_and c.from_residual-in_err-adopt.result c.from_residual-in_err-adopt.ensures.1 in
    let (why, same) = c.in_err-adopt.ensures in
    rw (p.1, p.2) (
      refused_by_check c.args.task.now c.args.sheet.now _ _ _ (g.T.Tariff.prices c.args.tariff.now) _ c.in_ok-asked.ensures (omega (arith, c.if-before-after.false, c.price-before.ensures, c.price-after.ensures)) _ why,
      same,
    )

pub returns : goal.returns
returns g c =
    let (good, same) = c.in_ok-adopt.ensures in
    let done = accepted c.args.task.now c.args.sheet.now _ _ _ (g.T.Tariff.prices c.args.tariff.now) _ c.in_ok-asked.ensures (omega (arith, c.if-before-after.false, c.price-before.ensures, c.price-after.ensures)) good in
    rw (same, c.price-before.ensures, c.price-after.ensures) done
