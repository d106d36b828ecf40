-- What `replace` answers: by the sheet before, the answer and the sheet after, for every input.
use Rattle.std.specs.Prelude.{◌≡◌, ℕ, suc, ◌+◌, ◌-◌, ◌<◌, ◌≤◌, ◌⊎◌, List, ◌++◌, length, take, drop, sum_by, Result, MatchResult}
use Rattle.shaping.specs.declared.fault.EditFault.{EditFault}
use Rattle.shaping.specs.declared.fault.EditFault.TheVariants.{Position, Block, Empty, NotCheaper, Sheet as OfSheet}
use Rattle.orders.specs.EditTheorems.{BlocksAround, TiedAround}
use Rattle.orders.specs.Edits.{IsMember, replaced}
use Rattle.orders.specs.Sheets.{Outline}
use Rattle.sheet.specs.Sheets.{actions, outline}
use Rattle.sheet.specs.Verdicts.{AllKnown, FirstUnknown, LowestWanting, Passes, effects_of}
use Rattle.sheet.specs.declared.fault.SheetFault.TheVariants.{UnknownAction, WantingFact, TooLong}
use Rattle.sheet.specs.declared.sheet.Sheet.{Sheet}
use Rattle.task.specs.declared.tasks.Task.{Task}

-- the numbers from place a to place b
abbrev pub from_to : List ℕ → ℕ → ℕ → List ℕ
from_to numbers a b = take (suc b - a) (drop a numbers)

-- the numbers with the list in place of those from a to b
abbrev pub put_in : List ℕ → ℕ → ℕ → List ℕ → List ℕ
put_in numbers a b list = take a numbers ++ (list ++ drop (suc b) numbers)

-- a and b are positions, b not ahead of a
abbrev pub AreRun : Outline → ℕ → ℕ → Type 0
AreRun s a b = (a ≤ b) × (b < s.size)

-- the sheet has room for m steps in place of a to b
abbrev pub HasRoom : Outline → ℕ → ℕ → ℕ → Type 0
HasRoom s a b m = (replaced s a b m).size ≤ 128

-- the list costs less than the steps from a to b
abbrev pub IsCheaper : (ℕ → ℕ) → List ℕ → ℕ → ℕ → List ℕ → Type 0
IsCheaper prices numbers a b list = sum_by prices list < sum_by prices (from_to numbers a b)

-- the one where the condition fails, and the other where it holds
abbrev pub Unless : Type 0 → Type 0 → Type 0 → Type 0
Unless condition here later = ((condition → ⊥) × here) ⊎ (condition × later)

-- no sheet can be asked for, and this is the first reason; or else what is said later
abbrev pub NotAsked : Task → Sheet → ℕ → ℕ → List ℕ → EditFault → Type 0 → Type 0
NotAsked task before a b list fault later =
    Unless (AreRun (outline before) a b) (fault ≡ Position)
    (Unless (IsMember (outline before) a b) (fault ≡ Block)
    (Unless (0 < length list) (fault ≡ Empty)
    (Unless (HasRoom (outline before) a b (length list)) (fault ≡ OfSheet TooLong)
    (Unless (AllKnown task (actions before ++ list)) ((number : ℕ) × (fault ≡ OfSheet (UnknownAction number)) × FirstUnknown task (actions before ++ list) number)
    later))))

-- which refusal it is, the first that applies
abbrev pub ReplaceRefused : (ℕ → ℕ) → Task → Sheet → ℕ → ℕ → List ℕ → EditFault → Type 0
ReplaceRefused prices task before a b list fault = NotAsked task before a b list fault
    (Unless (IsCheaper prices (actions before) a b list) (fault ≡ NotCheaper)
    ((place : ℕ) × ((fact : ℕ) × (fault ≡ OfSheet (WantingFact place fact)) ×
    LowestWanting (replaced (outline before) a b (length list)) (effects_of task (put_in (actions before) a b list)) place fact)))

-- the sheet asked for: before with the list in place of a to b
pub record IsAsked (task : Task) (before : Sheet) (a b : ℕ) (list : List ℕ) (asked : Sheet) : Type 0 where
  pub run : AreRun (outline before) a b
  pub whole : IsMember (outline before) a b
  pub some : 0 < length list
  pub room : HasRoom (outline before) a b (length list)
  pub known : AllKnown task (actions before ++ list)
  pub new_actions : actions asked ≡ put_in (actions before) a b list
  pub new_outline : outline asked ≡ replaced (outline before) a b (length list)

-- after is the sheet asked for, which passes the check and costs that much less
pub record IsReplaced (prices : ℕ → ℕ) (task : Task) (before : Sheet) (a b : ℕ) (list : List ℕ) (saving : ℕ) (after : Sheet) : Type 0 where
  pub asked : IsAsked task before a b list after
  -- the new steps are tied to the others as all that they replace was, and the blocks around stay
  pub tied_around : TiedAround (outline before) (outline after) a b (length list)
  pub blocks_around : BlocksAround (outline before) (outline after) a b (length list)
  pub cheaper : IsCheaper prices (actions before) a b list
  pub good : Passes task (actions after) (outline after)
  pub saves : sum_by prices (actions before) ≡ sum_by prices (actions after) + saving

abbrev pub Replaces : (ℕ → ℕ) → Task → Sheet → ℕ → ℕ → List ℕ → Result ℕ EditFault → Sheet → Type 0
Replaces prices task before a b list answer after = MatchResult answer
    (λ saving. IsReplaced prices task before a b list saving after)
    (λ fault. ReplaceRefused prices task before a b list fault × (after ≡ before))
