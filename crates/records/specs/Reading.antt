-- What a reader has before it, and what it answers.
use Rattle.std.specs.Prelude.{◌≡◌, ℕ, ◌+◌, ◌<◌, List, [], ◌∷◌, ◌++◌, length, drop, Some, None, Ok, Err, Option, Result, ◌≢◌}
use Rattle.records.specs.Lines.{Line, Proper, text}
use Rattle.records.specs.Records.{Says}
use Rattle.records.specs.declared.fault.RecordFault.{RecordFault}
use Rattle.records.specs.declared.reader.Reader.{Reader}
use Rattle.records.specs.declared.record.Record.{Record}

-- the text that is still to be read
abbrev pub unread : Reader → List ℕ
unread r = drop r.cursor r.book.now

-- no line stands at the text's front
abbrev pub NoLine : List ℕ → Type 0
NoLine bs = (l : Line) (more : List ℕ) → Proper l → bs ≢ text l ++ 10 ∷ more

-- what `next` answers at r, which is r' then
abbrev pub Next : Reader → Result (Option Record) RecordFault → Reader → Type 0
Next r (Ok None) r' = (unread r ≡ []) × (r' ≡ r)
Next r (Ok (Some x)) r' = (l : Line) × Proper l × Says x l × (unread r ≡ text l ++ 10 ∷ unread r') × (r'.lines ≡ r.lines + 1)
Next r (Err e) r' = (0 < length (unread r)) × NoLine (unread r) × (r' ≡ r)
