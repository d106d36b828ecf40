use Rattle.std.proofs.Common.{rules}
use Rattle.std.proofs.lemmas.Iterator.{YieldsList-from_slice}
use Rattle.std.proofs.lemmas.Iterator.Consumers.{YieldsList-at, YieldsList-from_copied}
use Rattle.sets.proofs.Held.{contents_fit}
use Rattle.sets.specs.Contents.{contents}
use Rattle.task.proofs.Sums.{whole_sum}
use Rattle.task.proofs.tariffs.price_of_plan.Goals as goal

pub returns : goal.returns
returns g c =
    let numbers = contents c.args.plan.now in
    let road = YieldsList-from_copied (YieldsList-at c.copied.ensures.source (YieldsList-from_slice numbers (cc))) in
    whole_sum (g.met.T.Tariff.lawful c.args.tariff.now) _ numbers (c.price_of.ensures numbers road.runs) (contents_fit c.args.plan.now)
