-- Prices by a task are lawful. This stands in specs/ since the tariffs' impls cite it.
use Rattle.std.specs.Prelude.{ℕ, ◌≤◌, Some, None, Option}
use Rattle.std.proofs.Common.{ap, arith}
use Rattle.std.proofs.lemmas.Option.{slice_get_past}
use Rattle.std.specs.List.{slice_get}
use Rattle.std.specs.Option.{option_map, unwrap_or}
use Rattle.sets.proofs.Held.{contents_fit}
use Rattle.sets.proofs.Laws.{tally_le}
use Rattle.sets.specs.Contents.{contents}
use Rattle.sets.specs.declared.bits.BitSet.{BitSet}
use Rattle.task.specs.Prices.{Lawful, priced, touched, touches}
use Rattle.task.specs.declared.actions.Action.{Action}
use Rattle.task.specs.declared.tasks.Task.{Task}

module _ (price : Action → ℕ) (highest : ℕ) (bound : (a : Action) → price a ≤ highest) where
  value_le : (o : Option Action) → unwrap_or (option_map price o) 0 ≤ highest
  value_le None = omega arith
  value_le (Some a) = bound a

  priced_lawful : highest ≤ 1000000 → (task : Task) → Lawful highest (priced price task)
  priced_lawful fits task = record {
    fits = fits;
    bounded = λ n. value_le (slice_get (contents task.actions) n);
    nothing = λ n above. ap (λ o. unwrap_or (option_map price o) 0) (slice_get_past (contents task.actions) n (omega (arith, contents_fit task.actions)));
  }

pub book_lawful : (task : Task) → Lawful 1000000 (priced (λ a. a.price) task)
book_lawful = priced_lawful (λ a. a.price) 1000000 (λ a. a.affordable) (omega arith)

pub touch_lawful : (marked : BitSet 1) (task : Task) → Lawful 64 (priced (touches marked) task)
touch_lawful marked = priced_lawful (touches marked) 64 (λ a. tally_le (touched marked a) 64) (omega arith)
