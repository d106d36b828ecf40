-- A book's edits, one after another, and what is said of each.
use Rattle.std.specs.Prelude.{◌≡◌, ℕ, ◌<◌, ◌≤◌, List, [], ◌∷◌, ◌++◌, length, Ok, Err, codes, Result}
use Rattle.std.specs.List.{flat_map, AllByRecursion}
use Rattle.book.specs.Weeks.{bytes}
use Rattle.edits.specs.Applying.{Applies}
use Rattle.shaping.specs.Faults.{number_of, values_of}
use Rattle.shaping.specs.declared.fault.EditFault.{EditFault}
use Rattle.lines.specs.Text.{line_text}
use Rattle.lines.specs.Writing.{Wrote}
use Rattle.lines.specs.declared.answer.ShortBuffer.{ShortBuffer}
use Rattle.orders.specs.Changes.{Change}
use Rattle.orders.specs.Changes.Change.{group, loosen, replace, swap, ungroup}
use Rattle.records.specs.Lines.{Line, Proper, ProperChange}
use Rattle.records.specs.Lines.Line.{fact, act, start, goal, step, edit}
use Rattle.records.specs.Reading.{unread}
use Rattle.records.specs.Records.{EditSays}
use Rattle.records.specs.declared.reader.Reader.{Reader}
use Rattle.records.specs.declared.record.Edit.{Edit}
use Rattle.records.specs.declared.record.Edit.TheVariants.{Group, Loosen, Replace, Swap, Ungroup}
use Rattle.sheet.specs.declared.sheet.Sheet.{Sheet}
use Rattle.task.specs.Prices.{priced}
use Rattle.task.specs.declared.tasks.Task.{Task}

-- the edits, with that of the line ahead of them if it is one
abbrev pub with_change : Line → List Change → List Change
with_change (fact name) changes = changes
with_change (act deed) changes = changes
with_change (start set) changes = changes
with_change (goal set) changes = changes
with_change (step action) changes = changes
with_change (edit change) changes = change ∷ changes

-- the edits among the lines
abbrev pub changes_in : List Line → List Change
changes_in [] = []
changes_in (l ∷ lines) = with_change l (changes_in lines)

-- the list that an edit puts in, if it is a replacement
abbrev pub listed_in : Change → List ℕ
listed_in (swap k) = []
listed_in (group a b) = []
listed_in (ungroup a b) = []
listed_in (loosen i j) = []
listed_in (replace a b list) = list

-- the edit as plain numbers, with that list in the place of a replacement's text
abbrev pub meant : Edit → List ℕ → Change
meant (Swap k) list = swap k
meant (Group a b) list = group a b
meant (Ungroup a b) list = ungroup a b
meant (Loosen i j) list = loosen i j
meant (Replace a b text) list = replace a b list

-- the first edit among the lines is read, and the reader stands behind it
pub record NextEdit (lines : List Line) (e : Edit) (reader : Reader) : Type 0 where
  pub change : Change
  pub more : List Line
  pub says : EditSays e change
  pub proper : ProperChange change
  pub forms : AllByRecursion Proper more
  pub left : unread reader ≡ bytes more
  pub changes : changes_in lines ≡ change ∷ changes_in more

-- what the program says to the answer of an edit: what it saves, or the refusal's number and what it names
abbrev pub answer_text : Result ℕ EditFault → List ℕ
answer_text (Ok saving) = line_text (codes "done") (saving ∷ [])
answer_text (Err fault) = line_text (codes "no") (number_of fault ∷ values_of fault)

-- the prices that the book gives
abbrev pub book_prices : Task → ℕ → ℕ
book_prices task = priced (λ a. a.price) task

-- the edits are carried out one after another: each answers by its rule, on the sheet that the one before it left
abbrev pub CarriedOut : Task → Sheet → List Change → List (Result ℕ EditFault) → Sheet → Type 0
CarriedOut task before [] [] after = after ≡ before
CarriedOut task before [] (answer ∷ answers) after = ⊥
CarriedOut task before (change ∷ changes) [] after = ⊥
CarriedOut task before (change ∷ changes) (answer ∷ answers) after =
    (next : Sheet) × Applies (book_prices task) task before change answer next × CarriedOut task next changes answers after

-- the lines for the answers
abbrev pub replies : List (Result ℕ EditFault) → List ℕ
replies answers = flat_map answer_text answers

-- the edits are carried out, and their lines written
pub record Replied (task : Task) (before : Sheet) (changes : List Change) (room : List ℕ) (len : ℕ) (after : Sheet) (out : List ℕ) : Type 0 where
  pub answers : List (Result ℕ EditFault)
  pub carried : CarriedOut task before changes answers after
  pub fits : length (replies answers) ≤ length room
  pub bytes_written : len ≡ length (replies answers)
  pub wrote : Wrote (replies answers) room out

-- the line for one of the edits does not fit any more, and those before it are written
pub record Outgrown (task : Task) (before : Sheet) (changes : List Change) (room : List ℕ) (after : Sheet) (out : List ℕ) : Type 0 where
  pub front : List Change
  pub more : List Change
  pub split : changes ≡ front ++ more
  pub answers : List (Result ℕ EditFault)
  pub last : Result ℕ EditFault
  pub carried : CarriedOut task before front (answers ++ last ∷ []) after
  pub short : length room < length (replies answers ++ answer_text last)
  pub wrote : Wrote (replies answers) room out

-- what is left of a buffer after the edits
abbrev pub Replies : Task → Sheet → List Change → List ℕ → Result ℕ ShortBuffer → Sheet → List ℕ → Type 0
Replies task before changes room (Ok len) after out = Replied task before changes room len after out
Replies task before changes room (Err e) after out = Outgrown task before changes room after out
