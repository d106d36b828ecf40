-- The whole week: a plan laid, its sheet edited, a rig driven over each.
use Rattle.std.specs.Prelude.{◌≡◌, ℕ, ◌+◌, ◌-◌, ◌<◌, ◌↔◌, ◌⊎◌, true, false, List, [], ◌∷◌, ◌++◌, length, Ok, Err, Result, sum_by}
use Rattle.std.specs.List.{slice_get}
use Rattle.driving.specs.Calls.{Moment}
use Rattle.driving.specs.Drivings.{Begins, Drives, Serves}
use Rattle.driving.specs.Meanings.{Meaning}
use Rattle.driving.specs.Theorems.{ServesAsLaid, SomeDrivingFails}
use Rattle.edits.specs.Applying.{Applies, saved}
use Rattle.edits.specs.Replacing.{AreRun, HasRoom, IsCheaper, put_in}
use Rattle.orders.specs.Changes.{Change}
use Rattle.orders.specs.Changes.Change.{group, loosen, replace, swap, ungroup}
use Rattle.orders.specs.Edits.{CanGroup, CanLoosen, IsMember, Neighbours, comes, grouped, loosened, replaced, swapped, ungrouped}
use Rattle.orders.specs.Sheets.{Outline}
use Rattle.runs.specs.Views.{work, work_in}
use Rattle.shaping.specs.declared.fault.EditFault.{EditFault}
use Rattle.shaping.specs.declared.fault.EditFault.TheVariants.{Sheet as OfSheet}
use Rattle.sheet.specs.Sheets.{actions, outline}
use Rattle.sheet.specs.Verdicts.{AllKnown, Lays}
use Rattle.sheet.specs.declared.fault.SheetFault.TheVariants.{WantingFact}
use Rattle.sheet.specs.declared.sheet.Sheet.{Sheet}
use Rattle.task.specs.declared.tasks.Task.{Task}

-- edits one after another, refused ones included, with what they report as saved in all
pub data Edits (prices : ℕ → ℕ) (task : Task) (first : Sheet) : List Change → ℕ → Sheet → Type 0 where
  none : Edits prices task first [] 0 first
  more : {changes : List Change} {sum : ℕ} {before : Sheet} (after : Sheet) (change : Change) (answer : Result ℕ EditFault) →
      Edits prices task first changes sum before → Applies prices task before change answer after →
      Edits prices task first (changes ++ change ∷ []) (sum + saved answer) after

-- the edit meets no other refusal of its rule than that of a missing fact, and asks for the sheet of those action
-- numbers in that order
abbrev pub Asks : (ℕ → ℕ) → Task → Sheet → Change → List ℕ → Outline → Type 0
Asks prices task s (swap k) numbers order = (a : ℕ) × ((b : ℕ) × Neighbours (outline s) a k b
    × ((outline s).tied (k - 1) k ≡ false)
    × ((x : ℕ) → slice_get numbers x ≡ slice_get (actions s) (comes a k b x)) × (order ≡ swapped (outline s) a k b))
Asks prices task s (group a b) numbers order = CanGroup (outline s) a b × ((outline s).block a b ≡ false)
    × (numbers ≡ actions s) × (order ≡ grouped (outline s) a b)
Asks prices task s (ungroup a b) numbers order = ((outline s).block a b ≡ true) × AllKnown task (actions s)
    × (numbers ≡ actions s) × (order ≡ ungrouped (outline s) a b)
Asks prices task s (loosen i j) numbers order = ((outline s).tied i j ≡ true) × CanLoosen (outline s) i j
    × AllKnown task (actions s)
    × (numbers ≡ actions s) × (order ≡ loosened (outline s) i j)
Asks prices task s (replace a b list) numbers order = AreRun (outline s) a b × IsMember (outline s) a b
    × (0 < length list)
    × HasRoom (outline s) a b (length list) × AllKnown task (actions s ++ list) × IsCheaper prices (actions s) a b list
    × (numbers ≡ put_in (actions s) a b list) × (order ≡ replaced (outline s) a b (length list))

-- accepted, with a saving
abbrev pub IsAccepted : Result ℕ EditFault → Type 0
IsAccepted answer = (saving : ℕ) × (answer ≡ Ok saving)

-- refused for a missing fact
abbrev pub RefusedForFact : Result ℕ EditFault → Type 0
RefusedForFact answer = (place : ℕ) × ((fact : ℕ) × (answer ≡ Err (OfSheet (WantingFact place fact))))

-- the promise for one task, one plan laid as `laid`, and one sheet that edits led to, saving that sum; on rigs of two
-- kinds, by what each means
pub record Promise {R S : Type 0} (first : R → Meaning) (second : S → Meaning)
    (prices : ℕ → ℕ) (task : Task) (laid : Sheet) (sum : ℕ) (sheet : Sheet) : Type 0 where
  -- the first rig can do the plan as laid, and no driving of it over the laid sheet meets a refused step, a dead end or
  -- an end without the goal
  pub as_laid : (rig : R) → Begins (work task laid) (first rig) → ServesAsLaid (work task laid) (first rig)
  pub over_laid : (rig : R) → Begins (work task laid) (first rig) → (m : Moment) →
      Drives (work task laid) (first rig) m → Serves (work task laid) m
  -- nor does the second rig, driven over the edited sheet
  pub as_edited : (rig : S) → Begins (work task sheet) (second rig) → (m : Moment) →
      Drives (work task sheet) (second rig) m → Serves (work task sheet) m
  -- the laid plan's price is the edited sheet's and all that was saved
  pub balanced : sum_by prices (actions laid) ≡ sum_by prices (actions sheet) + sum
  -- an edit that meets no other refusal is accepted, or refused for a missing fact
  pub decided : (change : Change) (numbers : List ℕ) (order : Outline) → Asks prices task sheet change numbers order →
      (answer : Result ℕ EditFault) (after : Sheet) → Applies prices task sheet change answer after →
      IsAccepted answer ⊎ RefusedForFact answer
  -- and that exactly when some driving over the sheet it asked for fails, on each rig of either kind
  pub exact : (change : Change) (numbers : List ℕ) (order : Outline) → Asks prices task sheet change numbers order →
      (answer : Result ℕ EditFault) (after : Sheet) → Applies prices task sheet change answer after →
      ((rig : R) → Begins (work_in task numbers order) (first rig) →
      RefusedForFact answer ↔ SomeDrivingFails (work_in task numbers order) (first rig))
      × ((rig : S) → Begins (work_in task numbers order) (second rig) →
      RefusedForFact answer ↔ SomeDrivingFails (work_in task numbers order) (second rig))
  -- an accepted edit leaves the sheet that it asked for
  pub accepted : (change : Change) (saving : ℕ) (after : Sheet) → Applies prices task sheet change (Ok saving) after →
      Asks prices task sheet change (actions after) (outline after)
  -- and one that is refused for a missing fact asked for some sheet
  pub refused : (change : Change) (answer : Result ℕ EditFault) (after : Sheet) →
      Applies prices task sheet change answer after →
      RefusedForFact answer → (numbers : List ℕ) × ((order : Outline) × Asks prices task sheet change numbers order)

-- for every task, every plan that is laid, and every sheet that edits make of it
abbrev pub WholeWeek : {R S : Type 0} → (R → Meaning) → (S → Meaning) → (ℕ → ℕ) → Type 0
WholeWeek first second prices =
    (task : Task) (plan : List ℕ) (laid : Sheet) (changes : List Change) (sum : ℕ) (sheet : Sheet) →
    Lays task plan (Ok laid) → Edits prices task laid changes sum sheet →
    Promise first second prices task laid sum sheet
