-- What load promises: the weeks it accepts, and the first line of a book that is at fault.
use Rattle.std.specs.Prelude.{◌≡◌, ℕ, ◌+◌, ◌<◌, ◌≤◌, ◌⊎◌, List, [], ◌∷◌, ◌++◌, length, Ok, Result, MatchResult}
use Rattle.sets.specs.Contents.{contents}
use Rattle.sets.specs.declared.list.ArrayVec.{ArrayVec}
use Rattle.task.specs.declared.tasks.Task.{Task}
use Rattle.records.specs.Lines.{Line, Proper, text}
use Rattle.records.specs.Reading.{NoLine}
use Rattle.book.specs.Tasks.{TaskOf}
use Rattle.book.specs.Weeks.{Week, Fits, Whole, Begins, bytes, no_week, said}
use Rattle.book.specs.declared.fault.LoadFault.{LoadFault}
use Rattle.book.specs.declared.fault.LoadFault.TheVariants.{TooLong, Form, Turn}

-- a book is no longer than this
abbrev pub Short : List ℕ → Type 0
Short book = length book ≤ 32768

-- the line at fault: those before it begin a book, and what stands there is bad
pub record FirstBad (Bad : List Line → List ℕ → Type 0) (book : List ℕ) (line : ℕ) : Type 0 where
  pub front : List Line
  pub rest : List ℕ
  pub cut : book ≡ bytes front ++ rest
  pub begins : Begins front
  pub number : line ≡ length front + 1
  pub bad : Bad front rest

-- there is something, and it is no line
abbrev pub NoForm : List Line → List ℕ → Type 0
NoForm front rest = (0 < length rest) × NoLine rest

-- a line that no book has behind those
abbrev pub OutOfTurn : List Line → List ℕ → Type 0
OutOfTurn front rest = (l : Line) × (more : List ℕ) × Proper l × (rest ≡ text l ++ 10 ∷ more) × (Begins (front ++ l ∷ []) → ⊥)

-- the text ends, and the lines are no whole book
abbrev pub Unfinished : List Line → List ℕ → Type 0
Unfinished front rest = (rest ≡ []) × (Whole front → ⊥)

abbrev pub Refused : List ℕ → LoadFault → Type 0
Refused book TooLong = 32768 < length book
Refused book (Form at) = Short book × FirstBad NoForm book at.line
Refused book (Turn at) = Short book × FirstBad (λ front rest. OutOfTurn front rest ⊎ Unfinished front rest) book at.line

-- the task and the plan of a week
abbrev pub Loaded : Week → Task → ArrayVec ℕ 128 → Type 0
Loaded w task plan = TaskOf w task × (contents plan ≡ w.steps)

-- the book is the text of a week, which is loaded
abbrev pub Accepted : List ℕ → Task → ArrayVec ℕ 128 → Type 0
Accepted book task plan = Short book × ((w : Week) × Fits w × (book ≡ bytes (said w)) × Loaded w task plan)

-- a book is accepted or refused; a refused one leaves an empty task and an empty plan
abbrev pub Loads : List ℕ → Result (Unit {0}) LoadFault → Task → ArrayVec ℕ 128 → Type 0
Loads book r task plan = MatchResult r (λ _. Accepted book task plan) (λ e. Refused book e × Loaded no_week task plan)

-- the text of every week that fits is loaded as that week
abbrev pub RoundTrip : List ℕ → Result (Unit {0}) LoadFault → Task → ArrayVec ℕ 128 → Type 0
RoundTrip book r task plan = (w : Week) → Fits w → book ≡ bytes (said w) → Short book → (r ≡ Ok tt) × Loaded w task plan
