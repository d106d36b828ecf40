use Rattle.std.proofs.Common.{◌≡◌, take, ap, ◌∙◌}
use Rattle.std.proofs.lemmas.List.{map-id}
use Rattle.std.proofs.lemmas.Iterator.{YieldsList}
use Rattle.std.proofs.lemmas.Iterator.Consumers.{YieldsList-end}
use Rattle.sets.proofs.list.ArrayVec.collect.Goals as goal

pub returns : goal.returns
returns g c all h =
    let road : YieldsList g.I.Iterator.next_gives (λ n. n) c.into_iter-item-iterator.result all = record { runs = rw c.into_iter-item-iterator.ensures.into_iter_gives h } in
    let (same, size) = YieldsList-end road c.loop-item.yielded c.loop-item.item-iterator c.loop-item.yielded_by c.next.result c.next.new.self c.in-None.is c.next.ensures.steps in
    let whole : c.loop-item.yielded ≡ all = rw map-id at same in
    c.loop-item.invariant.2 ∙ ap (take g.row.N) whole
