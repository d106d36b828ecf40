use Rattle.whole_week.proofs.Promising.{whole_week}
use Rattle.whole_week.proofs.promise.every_week_keeps_its_promise.Goals as goal

pub returns : goal.returns
returns g c = λ tariff. whole_week g.R.Rig.meaning g.S.Rig.meaning (g.T.Tariff.prices tariff)
