-- Tasks and sheets that are written out as lists of numbers, and the values of the program that are those.
use Rattle.std.specs.Prelude.{◌≡◌, ℕ, List, [], ◌∷◌}
use Rattle.orders.specs.Lists.{listed, paired}
use Rattle.sets.specs.Contents.{contents}
use Rattle.sets.specs.Member.{member}
use Rattle.sets.specs.declared.bits.BitSet.{BitSet}
use Rattle.sheet.specs.Sheets.{actions, outline}
use Rattle.sheet.specs.declared.sheet.Sheet.{Sheet}
use Rattle.task.specs.Prices.{priced, touches}
use Rattle.task.specs.declared.actions.Action.{Action}
use Rattle.task.specs.declared.tasks.Task.{Task}

pub record SmallAction : Type 0 where
  pub price : ℕ
  pub needs : List ℕ
  pub adds : List ℕ
  pub deletes : List ℕ

pub record SmallTask : Type 0 where
  pub actions : List SmallAction
  pub start : List ℕ
  pub goal : List ℕ

-- the action numbers in home order, and the ties and the blocks pair by pair
pub record SmallSheet : Type 0 where
  pub actions : List ℕ
  pub ties : List (ℕ × ℕ)
  pub blocks : List (ℕ × ℕ)

-- the set has just these facts
abbrev pub IsSet : List ℕ → BitSet 1 → Type 0
IsSet facts set = (f : ℕ) → member set.words f ≡ listed facts f

pub record IsAction (small : SmallAction) (action : Action) : Type 0 where
  pub price : action.price ≡ small.price
  pub needs : IsSet small.needs action.needs
  pub adds : IsSet small.adds action.adds
  pub deletes : IsSet small.deletes action.deletes

-- one for one
abbrev pub AreActions : List SmallAction → List Action → Type 0
AreActions [] [] = Unit {0}
AreActions [] (a ∷ more) = ⊥
AreActions (s ∷ small) [] = ⊥
AreActions (s ∷ small) (a ∷ more) = IsAction s a × AreActions small more

pub record IsTask (small : SmallTask) (task : Task) : Type 0 where
  pub actions : AreActions small.actions (contents task.actions)
  pub start : IsSet small.start task.start
  pub goal : IsSet small.goal task.goal

pub record IsSheet (small : SmallSheet) (sheet : Sheet) : Type 0 where
  pub same_actions : actions sheet ≡ small.actions
  pub same_ties : (i j : ℕ) → (outline sheet).tied i j ≡ paired small.ties i j
  pub same_blocks : (a b : ℕ) → (outline sheet).block a b ≡ paired small.blocks a b

-- the prices of the book, or the count of those of these facts that an action adds or deletes
pub data SmallTariff : Type 0 where
  book : SmallTariff
  touch : List ℕ → SmallTariff

abbrev pub ArePrices : SmallTariff → Task → (ℕ → ℕ) → Type 0
ArePrices book task prices = prices ≡ priced (λ a. a.price) task
ArePrices (touch facts) task prices = (marked : BitSet 1) × IsSet facts marked × (prices ≡ priced (touches marked) task)
