use Rattle.std.proofs.Common.{◌≤◌, length, arith}
use Rattle.std.proofs.lemmas.Iterator.{YieldsList-from_slice}
use Rattle.std.proofs.lemmas.Iterator.Consumers.{YieldsList-at, YieldsList-from_copied}
use Rattle.task.proofs.Sums.{whole_sum}
use Rattle.task.proofs.tariffs.price_of_list.Goals as goal

pub returns : goal.returns
returns g c =
    let list = c.args.list.now in
    let few : length list ≤ 128 = omega arith in
    let road = YieldsList-from_copied (YieldsList-at c.copied.ensures.source (YieldsList-from_slice list (cc))) in
    (few, whole_sum (g.met.T.Tariff.lawful c.args.tariff.now) _ list (c.price_of.ensures list road.runs) few)
