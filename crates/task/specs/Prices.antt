-- The prices of a task's actions, by their numbers.
use Rattle.std.specs.Prelude.{◌≡◌, ℕ, ◌<◌, ◌≤◌, Bool, ◌&&◌, ◌||◌}
use Rattle.std.specs.List.{slice_get}
use Rattle.std.specs.Option.{option_map, unwrap_or}
use Rattle.sets.specs.Contents.{contents}
use Rattle.sets.specs.Member.{member, tally}
use Rattle.sets.specs.declared.bits.BitSet.{BitSet}
use Rattle.task.specs.declared.actions.Action.{Action}
use Rattle.task.specs.declared.tasks.Task.{Task}

-- what prices owe to the highest of them
pub record Lawful (highest : ℕ) (price : ℕ → ℕ) : Type 0 where
  pub fits : highest ≤ 1000000
  pub bounded : (action : ℕ) → price action ≤ highest
  pub nothing : (action : ℕ) → 127 < action → price action ≡ 0

-- what `price` gives for the action of that number, and 0 where the task has none
abbrev pub priced : (Action → ℕ) → Task → ℕ → ℕ
priced price task number = unwrap_or (option_map price (slice_get (contents task.actions) number)) 0

-- whether f is a marked fact that the action adds or deletes
abbrev pub touched : BitSet 1 → Action → ℕ → Bool
touched marked a f = member marked.words f && (member a.adds.words f || member a.deletes.words f)

-- how many such facts there are
abbrev pub touches : BitSet 1 → Action → ℕ
touches marked a = tally (touched marked a) 64
