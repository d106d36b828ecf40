-- What swap answers: by the sheet before, the answer and the sheet after, for every input.
use Rattle.std.specs.Prelude.{◌≡◌, ℕ, ◌-◌, ◌<◌, ◌≤◌, true, false, ◌⊎◌, sum_by, Result, MatchResult}
use Rattle.std.specs.List.{slice_get}
use Rattle.shaping.specs.declared.fault.EditFault.{EditFault}
use Rattle.shaping.specs.declared.fault.EditFault.TheVariants.{Position, Tie}
use Rattle.orders.specs.EditTheorems.{BlocksCarried, OrdersRenamed}
use Rattle.orders.specs.Edits.{Neighbours, comes, goes, swapped}
use Rattle.orders.specs.Facts.{Good}
use Rattle.orders.specs.Sheets.{Outline}
use Rattle.sheet.specs.Sheets.{actions, outline}
use Rattle.sheet.specs.Verdicts.{effects}
use Rattle.sheet.specs.declared.sheet.Sheet.{Sheet}
use Rattle.task.specs.declared.tasks.Task.{Task}

-- k - 1 and k are not both positions
abbrev pub NoNeighbours : Outline → ℕ → Type 0
NoNeighbours s k = (k ≡ 0) ⊎ (s.size ≤ k)

-- after is before with the parts of k - 1 and k in each other's place
pub record IsSwapped (before : Sheet) (k : ℕ) (after : Sheet) : Type 0 where
  -- where the part of k - 1 begins, and where the part of k ends
  pub first : ℕ
  pub last : ℕ
  pub parts : Neighbours (outline before) first k last
  pub untied : (outline before).tied (k - 1) k ≡ false
  pub new_outline : outline after ≡ swapped (outline before) first k last
  -- every action goes with its position
  pub new_actions : (x : ℕ) → slice_get (actions after) x ≡ slice_get (actions before) (comes first k last x)
  -- each block goes with its positions
  pub blocks_carried : BlocksCarried (outline before) (outline after) (goes first k last) (comes first k last)
  -- the running orders are the old ones, renamed
  pub orders_renamed : OrdersRenamed (outline before) (outline after) (goes first k last) (comes first k last)
  -- if no fact is wanting before, none is after
  pub stays_good : (task : Task) → Good (outline before) (effects task before) → Good (outline after) (effects task after)
  -- whatever each action costs, all of them cost the same
  pub same_price : (price : ℕ → ℕ) → sum_by price (actions after) ≡ sum_by price (actions before)

abbrev pub SwapRefused : Outline → ℕ → EditFault → Type 0
SwapRefused s k fault =
    (NoNeighbours s k × (fault ≡ Position))
    ⊎ ((0 < k) × (k < s.size) × (s.tied (k - 1) k ≡ true) × (fault ≡ Tie))

abbrev pub Swaps : Sheet → ℕ → Result (Unit {0}) EditFault → Sheet → Type 0
Swaps before k answer after = MatchResult answer (λ _. IsSwapped before k after) (λ fault. SwapRefused (outline before) k fault × (after ≡ before))
