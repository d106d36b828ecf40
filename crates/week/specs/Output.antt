-- What the program writes for a book.
use Rattle.std.specs.Prelude.{◌≡◌, ℕ, ◌+◌, ◌<◌, ◌≤◌, Bool, true, false, ◌⊎◌, List, [], ◌∷◌, ◌++◌, length, Ok, Err, sum_by, Result}
use Rattle.std.specs.List.{slice_get}
use Rattle.std.specs.Option.{option_map, unwrap_or}
use Rattle.orders.specs.Facts.{Good}
use Rattle.orders.specs.Changes.{Change}
use Rattle.edits.specs.Applying.{saved}
use Rattle.shaping.specs.declared.fault.EditFault.{EditFault}
use Rattle.sheet.specs.Sheets.{actions, outline}
use Rattle.sheet.specs.Verdicts.{LowestWanting, Passes, effects}
use Rattle.sheet.specs.declared.sheet.Sheet.{Sheet}
use Rattle.task.specs.declared.tasks.Task.{Task}
use Rattle.book.specs.Faults.{line_of, number_of}
use Rattle.book.specs.Loading.{Refused, Short}
use Rattle.book.specs.Tasks.{TaskOf}
use Rattle.book.specs.Weeks.{Fits, Week, bytes, said}
use Rattle.book.specs.declared.fault.LoadFault.{LoadFault}
use Rattle.lines.specs.Text.{listing_text, reply_text}
use Rattle.lines.specs.Writing.{Wrote}
use Rattle.lines.specs.declared.answer.Reply.TheVariants.{Bad, Unlaid}
use Rattle.lines.specs.declared.answer.ShortBuffer.{ShortBuffer}
use Rattle.week.specs.Editing.{CarriedOut, answer_text, book_prices, replies}
use Rattle.week.specs.Laying.{week_effects, week_outline}
use Rattle.week.specs.declared.answering.Outcome.{Outcome}
use Rattle.week.specs.declared.answering.Outcome.TheVariants.{Listed as ListedAs, Refused as RefusedAs}

-- the price that the book writes for the action of that number
abbrev pub book_price : Week → ℕ → ℕ
book_price w action = unwrap_or (option_map (λ d. d.price) (slice_get w.deeds action)) 0

-- the listing of a sheet: its price by the book, and its steps
abbrev pub sheet_text : Week → Sheet → List ℕ
sheet_text w sheet = listing_text (sum_by (book_price w) (actions sheet)) (actions sheet)

-- the listing of action numbers, priced by the task
abbrev pub task_text : Task → List ℕ → List ℕ
task_text task numbers = listing_text (sum_by (book_prices task) numbers) numbers

-- the book is the text of a week of which this holds
abbrev pub WeekOf : List ℕ → (Week → Type 0) → Type 0
WeekOf book Holds = Short book × ((w : Week) × Fits w × (book ≡ bytes (said w)) × Holds w)

-- the sheet is the week's plan as it is laid, and passes the check
pub record LaidAs (w : Week) (task : Task) (sheet : Sheet) : Type 0 where
  pub of_week : TaskOf w task
  pub steps : actions sheet ≡ w.steps
  pub order : outline sheet ≡ week_outline w
  pub passes : Passes task (actions sheet) (outline sheet)

-- edits carried out one after another, from the sheet of the week's plan to the last one
pub record Edited (w : Week) (changes : List Change) (answers : List (Result ℕ EditFault)) (last : Sheet) : Type 0 where
  pub task : Task
  pub of_week : TaskOf w task
  pub laid : Sheet
  pub laid_steps : actions laid ≡ w.steps
  pub laid_outline : outline laid ≡ week_outline w
  pub good_as_laid : Good (week_outline w) (week_effects w)
  pub carried : CarriedOut task laid changes answers last
  -- no running order of the last sheet lacks anything
  pub good_at_last : Good (outline last) (effects task last)
  -- the plan costs what the last sheet costs, and what the edits are said to save
  pub balanced : sum_by (book_price w) w.steps ≡ sum_by (book_price w) (actions last) + sum_by saved answers

-- the week's plan is good as it is laid, all its edits are carried out, and the last sheet is listed behind their lines
abbrev pub Listed : List ℕ → Week → Type 0
Listed text w = (answers : List (Result ℕ EditFault)) × ((last : Sheet) × Edited w w.changes answers last × (text ≡ replies answers ++ sheet_text w last))

-- the line for one of the edits does not fit any more: the buffer has those of the edits before it, and no other byte changed
pub record CutOff (w : Week) (before after : List ℕ) : Type 0 where
  pub front : List Change
  pub more : List Change
  pub split : w.changes ≡ front ++ more
  pub answers : List (Result ℕ EditFault)
  pub answer : Result ℕ EditFault
  pub last : Sheet
  pub edited : Edited w front (answers ++ answer ∷ []) last
  pub short : length before < length (replies answers ++ answer_text answer)
  pub wrote : Wrote (replies answers) before after

-- the lines for all edits fit, and the listing behind them does not: the buffer has just those lines
pub record Unlisted (w : Week) (before after : List ℕ) : Type 0 where
  pub answers : List (Result ℕ EditFault)
  pub last : Sheet
  pub edited : Edited w w.changes answers last
  pub short : length before < length (replies answers ++ sheet_text w last)
  pub wrote : Wrote (replies answers) before after

-- or it cannot be laid, and the lowest wanting place and its lowest wanting fact are named
abbrev pub NotLaid : List ℕ → Week → Type 0
NotLaid text w = (place : ℕ) × ((fact : ℕ) × LowestWanting (week_outline w) (week_effects w) place fact × (text ≡ reply_text (Unlaid place fact)))

-- the book is refused
abbrev pub BadBook : List ℕ → List ℕ → Type 0
BadBook book text = (e : LoadFault) × Refused book e × (text ≡ reply_text (Bad (number_of e) (line_of e)))

-- why there is no sheet of the book's plan
abbrev pub NoSheet : List ℕ → List ℕ → Type 0
NoSheet book text = BadBook book text ⊎ WeekOf book (NotLaid text)

-- the text for a book: its week's plan, or why there is none
abbrev pub Text : List ℕ → Bool → List ℕ → Type 0
Text book true text = WeekOf book (Listed text)
Text book false text = NoSheet book text

-- the buffer is too short for a week's text, and has the lines that fit
abbrev pub WeekCut : Week → List ℕ → List ℕ → Type 0
WeekCut w before after = CutOff w before after ⊎ Unlisted w before after

-- the buffer is too short for the text of a book: it has the lines for edits that fit, or is as it was where the text is one line
abbrev pub TooShort : List ℕ → List ℕ → List ℕ → Type 0
TooShort book before after =
    WeekOf book (λ w. WeekCut w before after)
    ⊎ ((text : List ℕ) × NoSheet book text × (length before < length text) × (after ≡ before))

-- whether the book is accepted, and its plan listed
abbrev pub accepted : Outcome → Bool
accepted (ListedAs len) = true
accepted (RefusedAs len) = false

-- how many bytes are written
abbrev pub len_of : Outcome → ℕ
len_of (ListedAs len) = len
len_of (RefusedAs len) = len

-- a text that is wanted stands at the front of the buffer, and the rest is as before
abbrev pub Written : (Bool → List ℕ → Type 0) → List ℕ → Outcome → List ℕ → Type 0
Written Wanted before o after = (text : List ℕ) × Wanted (accepted o) text × (length text ≤ length before) × (len_of o ≡ length text) × Wrote text before after

-- a wanted text is written; or the buffer is too short for it, in that way
abbrev pub Writes : (Bool → List ℕ → Type 0) → (List ℕ → List ℕ → Type 0) → List ℕ → Result Outcome ShortBuffer → List ℕ → Type 0
Writes Wanted Short before (Ok o) after = Written Wanted before o after
Writes Wanted Short before (Err e) after = Short before after
