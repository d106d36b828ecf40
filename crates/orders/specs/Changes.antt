-- The edits that a sheet can be asked for.
use Rattle.std.specs.Prelude.{ℕ, List}

-- an edit: its call's numbers, and the list of actions that `replace` offers
pub data Change : Type 0 where
  swap : ℕ → Change
  group : ℕ → ℕ → Change
  ungroup : ℕ → ℕ → Change
  loosen : ℕ → ℕ → Change
  replace : ℕ → ℕ → List ℕ → Change
