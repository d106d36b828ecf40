-- A row of the table, and what it says.
use Rattle.std.specs.Prelude.{◌≡◌, ℕ, Bool, true, false, cond, not, ◌&&◌, ◌||◌, List, [], ◌∷◌, length, Ok, Err, Decides, Result, Some, None, Option, ◌==◌, nat_lt}
use Rattle.driving.specs.Calls.{Moment, RunFault, Takes, Work}
use Rattle.driving.specs.Calls.RunFault.{not_open, position}
use Rattle.edits.specs.Applying.{Applies}
use Rattle.shaping.specs.Faults.{number_of, values_of}
use Rattle.shaping.specs.declared.fault.EditFault.{EditFault}
use Rattle.orders.specs.Changes.{Change}
use Rattle.orders.specs.Driving.{Open}
use Rattle.orders.specs.Lists.{listed}
use Rattle.orders.specs.Running.{RunningOrder}
use Rattle.orders.specs.Sheets.{Outline}
use Rattle.sheet.specs.Faults as sheets
use Rattle.sheet.specs.Sheets.{outline}
use Rattle.sheet.specs.Verdicts.{Checks, Lays}
use Rattle.sheet.specs.declared.fault.SheetFault.{SheetFault}
use Rattle.sheet.specs.declared.sheet.Sheet.{Sheet}
use Rattle.smallsheets.specs.Small.{ArePrices, IsSheet, IsTask, SmallSheet, SmallTariff, SmallTask}

-- accepted with a saving, or refused with a number and the values that the refusal names
pub data Answer : Type 0 where
  accepted : ℕ → Answer
  refused : ℕ → List ℕ → Answer

-- what an edit says
abbrev pub said : Result ℕ EditFault → Answer
said (Ok saving) = accepted saving
said (Err fault) = refused (number_of fault) (values_of fault)

-- what laying and checking say
abbrev pub judged : {A : Type 0} → Result A SheetFault → Answer
judged (Ok x) = accepted 0
judged (Err fault) = refused (sheets.number_of fault) (sheets.values_of fault)

-- whether two lists are the same, and whether a list is one of some
abbrev pub same_list : List ℕ → List ℕ → Bool
same_list [] [] = true
same_list [] (y ∷ ys) = false
same_list (x ∷ xs) [] = false
same_list (x ∷ xs) (y ∷ ys) = x == y && same_list xs ys

abbrev pub among : List (List ℕ) → List ℕ → Bool
among [] order = false
among (x ∷ xs) order = same_list order x || among xs order

-- whether no list comes twice
abbrev pub different : List (List ℕ) → Bool
different [] = true
different (x ∷ xs) = not (among xs x) && different xs

pub data Row : Type 0 where
  -- a task and a plan: the sheet that is laid
  lay : SmallTask → List ℕ → SmallSheet → Row
  -- a task and a plan: the number and the values of the refusal
  not_laid : SmallTask → List ℕ → ℕ → List ℕ → Row
  -- a task and a sheet: the answer
  check : SmallTask → SmallSheet → Answer → Row
  -- a task, a tariff, a sheet and an edit: the answer, and the sheet afterwards
  edit : SmallTask → SmallTariff → SmallSheet → Change → Answer → SmallSheet → Row
  -- a sheet and the positions that are done, where nothing is taken: which are open, and can be taken
  takes : SmallSheet → List ℕ → List ℕ → Row
  -- a sheet, the positions that are done and the one that is taken: none can be taken
  taken : SmallSheet → List ℕ → ℕ → Row
  -- a sheet: its running orders
  runs : SmallSheet → List (List ℕ) → Row

-- there is one that is so, and each that is so has P
abbrev pub Each : {A : Type 0} → (A → Type 0) → (A → Type 0) → Type 0
Each {A} Is P = ((x : A) × Is x) × ((x : A) → Is x → P x)

-- a call of `take`: its answer, the slip that it gives, and the moment after
pub record Call : Type 0 where
  pub answer : Result (Unit {0}) RunFault
  pub slip : Option ℕ
  pub after : Moment

-- p is taken
abbrev pub takes_it : Moment → ℕ → Call
takes_it m p = record { answer = Ok tt; slip = Some p; after = record { taken = Some p; done = m.done; rig = m.rig } }

-- the call is refused, and nothing changes
abbrev pub leaves_it : Moment → RunFault → Call
leaves_it m fault = record { answer = Err fault; slip = None; after = m }

-- what a call for p does where, of n positions, just those of the list can be taken
abbrev pub call_for : ℕ → List ℕ → Moment → ℕ → Call
call_for n ready m p = cond (listed ready p) (takes_it m p) (leaves_it m (cond (nat_lt p n) not_open position))

-- what `take` promises allows this call
abbrev pub MayTake : Work → Moment → ℕ → Call → Type 0
MayTake w m p call = Takes w m p call.answer call.slip call.after

-- a moment at which just the positions of the list are done, and that one is taken, if any
pub record IsMoment (done : List ℕ) (held : Option ℕ) (m : Moment) : Type 0 where
  pub same_done : (p : ℕ) → m.done p ≡ listed done p
  pub same_taken : m.taken ≡ held

-- at each such moment, over that outline of n positions and under any task, just the positions of `ready` can be taken: there
-- is a call that what `take` promises allows, and it is the only one
abbrev pub TakesJust : ℕ → Outline → List ℕ → Option ℕ → List ℕ → Type 0
TakesJust n order done held ready = Each (λ (w : Work). w.order ≡ order) (λ w. Each (IsMoment done held) (λ m.
    (p : ℕ) → Each (MayTake w m p) (λ call. call ≡ call_for n ready m p)))

-- what a row says: whatever answer the rules allow, it is this one
abbrev pub Holds : Row → Type 0
Holds (lay small plan laid) = Each (IsTask small) (λ task. (r : Result Sheet SheetFault) → Lays task plan r → (sheet : Sheet) × (r ≡ Ok sheet) × IsSheet laid sheet)
Holds (not_laid small plan number values) = Each (IsTask small) (λ task. (r : Result Sheet SheetFault) → Lays task plan r → judged r ≡ refused number values)
Holds (check small page answer) = Each (IsTask small) (λ task. Each (IsSheet page) (λ sheet.
    (r : Result (Unit {0}) SheetFault) → Checks task sheet r → judged r ≡ answer))
Holds (edit small tariff old change answer new) = Each (IsTask small) (λ task. Each (ArePrices tariff task) (λ prices. Each (IsSheet old) (λ before.
    (r : Result ℕ EditFault) (after : Sheet) → Applies prices task before change r after → (said r ≡ answer) × IsSheet new after)))
Holds (takes page done ready) = Each (IsSheet page) (λ sheet.
    ((p : ℕ) → Decides (listed ready p) (Open (outline sheet) done p)) × TakesJust (length page.actions) (outline sheet) done None ready)
Holds (taken page done p) = Each (IsSheet page) (λ sheet. TakesJust (length page.actions) (outline sheet) done (Some p) [])
Holds (runs page orders) = (different orders ≡ true) × Each (IsSheet page) (λ sheet. (order : List ℕ) → Decides (among orders order) (RunningOrder (outline sheet) order))
