-- What each edit answers: by the sheet before, the answer and the sheet after, for every input.
use Rattle.std.specs.Prelude.{◌≡◌, ℕ, ◌<◌, ◌≤◌, Bool, true, false, ◌&&◌, ◌||◌, ◌⊎◌, Result, MatchResult, nat_le, nat_lt}
use Rattle.shaping.specs.declared.fault.EditFault.{EditFault}
use Rattle.shaping.specs.declared.fault.EditFault.TheVariants.{Position, Block, Tie, Between, Sheet as OfSheet}
use Rattle.orders.specs.Check.{together}
use Rattle.orders.specs.EditTheorems.{OrdersAmong}
use Rattle.orders.specs.Edits.{CanGroup, CanLoosen, grouped, loosened, ungrouped}
use Rattle.orders.specs.Facts.{Good}
use Rattle.orders.specs.Sheets.{Outline, Rules}
use Rattle.sheet.specs.Sheets.{actions, outline}
use Rattle.sheet.specs.Verdicts.{Passes, Refused, effects}
use Rattle.sheet.specs.declared.fault.SheetFault.{SheetFault}
use Rattle.sheet.specs.declared.sheet.Sheet.{Sheet}
use Rattle.task.specs.declared.tasks.Task.{Task}

-- i and j are positions, i ahead of j
abbrev pub InOrder : Outline → ℕ → ℕ → Type 0
InOrder s i j = (i < j) × (j < s.size)

-- or they are not
abbrev pub NotInOrder : Outline → ℕ → ℕ → Type 0
NotInOrder s i j = (j ≤ i) ⊎ (s.size ≤ j)

-- whether the runs a to b and c to d overlap with neither inside the other
abbrev pub crosses : ℕ → ℕ → ℕ → ℕ → Bool
crosses a b c d = (nat_lt c a && nat_le a d && nat_lt d b) || (nat_lt a c && nat_le c b && nat_lt b d)

-- some block crosses the run a to b
abbrev pub Crossed : Outline → ℕ → ℕ → Type 0
Crossed s a b = (c : ℕ) × ((d : ℕ) × (s.block c d ≡ true) × (crosses a b c d ≡ true))

-- after is before with a to b grouped
pub record IsGrouped (before : Sheet) (a b : ℕ) (after : Sheet) : Type 0 where
  pub can : CanGroup (outline before) a b
  pub no_block : (outline before).block a b ≡ false
  pub same_actions : actions after ≡ actions before
  pub new_outline : outline after ≡ grouped (outline before) a b
  -- whatever keeps the rules, has a to b as a block and has the ties of before, has the ties of after
  pub fewest_ties : (t : Outline) → Rules t → t.block a b ≡ true → ((x y : ℕ) → (outline before).tied x y ≡ true → t.tied x y ≡ true) → (x y : ℕ) → (outline after).tied x y ≡ true → t.tied x y ≡ true
  -- every running order was one before
  pub orders_are_old : OrdersAmong (outline before) (outline after)
  -- if no fact is wanting before, none is after
  pub stays_good : (task : Task) → Good (outline before) (effects task before) → Good (outline after) (effects task after)

-- why group is refused, the first reason that holds
abbrev pub GroupRefused : Outline → ℕ → ℕ → EditFault → Type 0
GroupRefused s a b fault =
    (NotInOrder s a b × (fault ≡ Position))
    ⊎ (InOrder s a b × ((s.block a b ≡ true) ⊎ Crossed s a b) × (fault ≡ Block))

-- what `group` answers
abbrev pub Groups : Sheet → ℕ → ℕ → Result (Unit {0}) EditFault → Sheet → Type 0
Groups before a b answer after = MatchResult answer (λ _. IsGrouped before a b after) (λ fault. GroupRefused (outline before) a b fault × (after ≡ before))

-- the steps of before pass the check in the outline asked for, and after has them so
pub record IsChecked (task : Task) (before : Sheet) (asked : Outline) (after : Sheet) : Type 0 where
  pub passes : Passes task (actions before) asked
  pub same_actions : actions after ≡ actions before
  pub new_outline : outline after ≡ asked

-- or the check refuses them
abbrev pub CheckRefused : Task → Sheet → Outline → EditFault → Type 0
CheckRefused task before asked fault = (why : SheetFault) × (fault ≡ OfSheet why) × Refused task (actions before) asked why

-- why ungroup is refused, the first reason that holds
abbrev pub UngroupRefused : Task → Sheet → ℕ → ℕ → EditFault → Type 0
UngroupRefused task before a b fault =
    (NotInOrder (outline before) a b × (fault ≡ Position))
    ⊎ ((InOrder (outline before) a b × ((outline before).block a b ≡ false) × (fault ≡ Block))
    ⊎ (((outline before).block a b ≡ true) × CheckRefused task before (ungrouped (outline before) a b) fault))

-- what `ungroup` answers
abbrev pub Ungroups : Task → Sheet → ℕ → ℕ → Result (Unit {0}) EditFault → Sheet → Type 0
Ungroups task before a b answer after = MatchResult answer
    (λ _. ((outline before).block a b ≡ true) × IsChecked task before (ungrouped (outline before) a b) after)
    (λ fault. UngroupRefused task before a b fault × (after ≡ before))

-- a position outside the parts of i and j is tied behind i and before j
abbrev pub TiedBetween : Outline → ℕ → ℕ → Type 0
TiedBetween s i j = (x : ℕ) × (s.tied i x ≡ true) × (s.tied x j ≡ true) × (together s x i j ≡ false) × (together s x j i ≡ false)

-- why loosen is refused, the first reason that holds
abbrev pub LoosenRefused : Task → Sheet → ℕ → ℕ → EditFault → Type 0
LoosenRefused task before i j fault =
    (NotInOrder (outline before) i j × (fault ≡ Position))
    ⊎ ((InOrder (outline before) i j × ((outline before).tied i j ≡ false) × (fault ≡ Tie))
    ⊎ ((((outline before).tied i j ≡ true) × TiedBetween (outline before) i j × (fault ≡ Between))
    ⊎ (((outline before).tied i j ≡ true) × CanLoosen (outline before) i j × CheckRefused task before (loosened (outline before) i j) fault)))

-- what `loosen` answers
abbrev pub Loosens : Task → Sheet → ℕ → ℕ → Result (Unit {0}) EditFault → Sheet → Type 0
Loosens task before i j answer after = MatchResult answer
    (λ _. ((outline before).tied i j ≡ true) × CanLoosen (outline before) i j × IsChecked task before (loosened (outline before) i j) after)
    (λ fault. LoosenRefused task before i j fault × (after ≡ before))

-- what the last step of a checked edit answers: the sheet asked for is put in place, or the check refuses it
abbrev pub Adopts : Task → Sheet → Sheet → Result (Unit {0}) EditFault → Sheet → Type 0
Adopts task before asked answer after = MatchResult answer
    (λ _. Passes task (actions asked) (outline asked) × (after ≡ asked))
    (λ fault. CheckRefused task asked (outline asked) fault × (after ≡ before))
