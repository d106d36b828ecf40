use Rattle.std.proofs.Common.{◌≡◌, ◌%◌, ◌^◌, map, sum_by, rules}
use Rattle.std.proofs.lemmas.List.{map-id}
use Rattle.std.proofs.lemmas.Iterator.{YieldsList-from_map, YieldsList-from_slice}
use Rattle.std.proofs.lemmas.Iterator.Consumers.{YieldsList-at, YieldsList-from_copied}
use Rattle.sets.proofs.Held.{contents_fit}
use Rattle.task.proofs.Sums.{whole_sum}
use Rattle.sheet.proofs.sheet.Sheet.price.Goals as goal
use Rattle.sheet.specs.Sheets.{actions}

pub returns : goal.returns
returns g c =
    let numbers = actions c.args.self.now in
    let prices = g.T.Tariff.prices c.args.tariff.now in
    let sum : c.price_of.result ≡ sum_by prices (map (λ n. n) numbers) % 2 ^ 32 = c.price_of.ensures (map (λ n. n) numbers)
    (YieldsList-from_map _ (λ n. n) (YieldsList-at c.map.ensures.source (YieldsList-from_copied (YieldsList-at c.copied.ensures.source (YieldsList-from_slice numbers (cc))))) c.map.ensures.closure (λ x r q k. search rules)).runs in
    whole_sum (g.met.T.Tariff.lawful c.args.tariff.now) _ numbers (rw map-id at sum) (contents_fit c.args.self.now.steps)
