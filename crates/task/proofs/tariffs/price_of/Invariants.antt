use Rattle.std.proofs.Common.{◌≡◌, ◌%◌, ◌^◌, sum_by}
use Rattle.task.proofs.tariffs.price_of.Given as goal

abbrev pub invariant-loop-action : goal.invariant-loop-action
invariant-loop-action g l =
    (goal.iterator-loop-action g).can_next l.action-iterator × (goal.iterator-loop-action g).is_finite l.action-iterator
    × (l.sum ≡ sum_by (g.T.Tariff.prices l.tariff) l.yielded % 2 ^ 32)
