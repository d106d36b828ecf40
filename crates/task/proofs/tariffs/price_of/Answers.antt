use Rattle.std.proofs.Common.{◌≡◌, ◌∙◌, ◌%◌, ◌^◌, ap, sum_by}
use Rattle.std.proofs.lemmas.List.{map-id}
use Rattle.std.proofs.lemmas.Iterator.{YieldsList}
use Rattle.std.proofs.lemmas.Iterator.Consumers.{YieldsList-end}
use Rattle.task.proofs.tariffs.price_of.Goals as goal

pub returns : goal.returns
returns g c all h =
    let road : YieldsList g.I.Iterator.next_gives (λ n. n) c.into_iter-action-iterator.result all = record { runs = rw c.into_iter-action-iterator.ensures.into_iter_gives h } in
    let (same, size) = YieldsList-end road c.loop-action.yielded c.loop-action.action-iterator c.loop-action.yielded_by c.next.result c.next.new.self c.in-None.is c.next.ensures.steps in
    let whole : c.loop-action.yielded ≡ all = rw map-id at same in
    c.loop-action.invariant.2 ∙ ap (λ xs. sum_by (g.T.Tariff.prices c.args.tariff.now) xs % 2 ^ 32) whole
