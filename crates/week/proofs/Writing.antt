-- What is written for a book: its week's text, or why there is none.
use Rattle.std.proofs.Common.{◌≡◌, ℕ, true, List, Ok, Err, Result, inl, inr, MatchResult}
use Rattle.std.specs.Result.{IsOkAnd}
use Rattle.book.specs.Weeks.{Fits, Week, bytes, said}
use Rattle.lines.specs.Writing.{Answers}
use Rattle.lines.specs.declared.answer.ShortBuffer.{ShortBuffer}
use Rattle.sheet.specs.declared.sheet.Sheet.{Sheet}
use Rattle.task.specs.declared.tasks.Task.{Task}
use Rattle.week.specs.Output.{LaidAs, Listed, NoSheet, Text, TooShort, WeekCut, WeekOf, Writes}
use Rattle.week.specs.declared.answering.Outcome.{Outcome}
use Rattle.week.specs.declared.answering.Outcome.TheVariants.{Refused as RefusedAs}

-- what is written for the week whose text the book is, is written for the book
pub answer_of_sheet : (book : List ℕ) (task : Task) (sheet : Sheet) (before : List ℕ) (r : Result Outcome ShortBuffer) (after : List ℕ)
    → WeekOf book (λ w. LaidAs w task sheet)
    → ((w : Week) → Fits w → book ≡ bytes (said w) → LaidAs w task sheet → Writes (λ accepted text. (accepted ≡ true) × Listed text w) (WeekCut w) before r after)
    → Writes (Text book) (TooShort book) before r after
answer_of_sheet book task sheet before (Ok o) after (short, (w, fits, e, laid)) writes =
    let (text, (yes', listed), few, len, wrote) = writes w fits e laid in
    (text, rw yes' (short, (w, fits, e, listed)), few, len, wrote)
answer_of_sheet book task sheet before (Err e) after (short, (w, fits, is, laid)) writes =
    inl (short, (w, fits, is, writes w fits is laid))

-- the one line says why there is no sheet
pub answer_refused : {P : ℕ → Outcome → Type 0} → ((n : ℕ) (o : Outcome) → P n o → o ≡ RefusedAs n) → (book text before : List ℕ) (r : Result ℕ ShortBuffer) (answer : Result Outcome ShortBuffer) (after : List ℕ)
    → MatchResult r (λ n. IsOkAnd answer (P n)) (λ e. answer ≡ Err e) → NoSheet book text → Answers text before r after → Writes (Text book) (TooShort book) before answer after
answer_refused same book text before (Ok n) (Ok o) after maps why (fits, len, wrote) = rw (same n o maps) (text, why, fits, len, wrote)
answer_refused same book text before (Ok n) (Err e) after maps why written = absurd maps
answer_refused same book text before (Err e) answer after maps why (short, kept) = rw maps (inr (text, why, short, kept))
