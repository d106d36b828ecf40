-- What performing an action does to the facts.
use Rattle.std.specs.Prelude.{ℕ, Bool, not, ◌&&◌, ◌||◌}
use Rattle.sets.specs.Member.{member}
use Rattle.task.specs.declared.actions.Action.{Action}

-- whether f stands after the action, by what stood before: its deletes go, then its adds come
abbrev pub after : Action → (ℕ → Bool) → ℕ → Bool
after a stood f = member a.adds.words f || (stood f && not (member a.deletes.words f))
