-- The task that is loaded prices its actions as the book does.
use Rattle.std.proofs.Common.{◌≡◌, ℕ, zero, suc, List, [], ◌∷◌, sum_by, unwrap_or, refl, ap}
use mathlib.Core.Path.{fun_ext}
use Rattle.std.specs.List.{slice_get}
use Rattle.std.specs.Option.{option_map}
use Rattle.sets.specs.Contents.{contents}
use Rattle.task.specs.declared.actions.Action.{Action}
use Rattle.task.specs.declared.tasks.Task.{Task}
use Rattle.records.specs.Lines.{Deed}
use Rattle.book.specs.Tasks.{DescribeAll, TaskOf}
use Rattle.book.specs.Weeks.{Week}
use Rattle.lines.specs.Text.{listing_text}
use Rattle.week.specs.Editing.{book_prices}
use Rattle.week.specs.Output.{book_price, task_text}

same_price : (ds : List Deed) (actions : List Action) → DescribeAll ds actions → (n : ℕ) → unwrap_or (option_map (λ a. a.price) (slice_get actions n)) 0 ≡ unwrap_or (option_map (λ d. d.price) (slice_get ds n)) 0
same_price [] [] h n = refl
same_price [] (a ∷ actions) h n = absurd h
same_price (d ∷ ds) [] h n = absurd h
same_price (d ∷ ds) (a ∷ actions) h zero = h.0.price
same_price (d ∷ ds) (a ∷ actions) h (suc n) = same_price ds actions h.1 n

pub week_prices : (w : Week) (task : Task) → TaskOf w task → book_prices task ≡ book_price w
week_prices w task t = fun_ext (same_price w.deeds (contents task.actions) t.actions)

pub week_listing : (w : Week) (task : Task) → TaskOf w task → (numbers : List ℕ) → task_text task numbers ≡ listing_text (sum_by (book_price w) numbers) numbers
week_listing w task t numbers = ap (λ (p : ℕ → ℕ). listing_text (sum_by p numbers) numbers) (week_prices w task t)
