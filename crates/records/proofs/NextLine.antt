-- The line at the front of a text, and what is behind it.
use Rattle.std.proofs.Common.{◌≡◌, ℕ, ◌+◌, false, eqb, Ok, Err, Result, Option, List, ◌∷◌, ◌++◌, length, drop, sym, refl, ap, ◌∙◌, arith}
use Rattle.std.specs.Result.{IsErrAnd}
use Rattle.std.proofs.lemmas.List.{drop-drop, drop_at}
use Rattle.std.proofs.lemmas.Bool.{eqb-false}
use Rattle.text.specs.Fields.{Lacks, Cut}
use Rattle.text.proofs.Cuts.{same_cut, no_cut}
use Rattle.records.specs.Lines.{Line, Proper, text}
use Rattle.records.specs.Reading.{Next, NoLine, unread}
use Rattle.records.specs.declared.fault.RecordFault.{RecordFault}
use Rattle.records.specs.declared.reader.Reader.{Reader}
use Rattle.records.specs.declared.record.Record.{Record}
use Rattle.records.proofs.Spelling.{text_lacks}

pub no_end : (bs : List ℕ) → Lacks 10 bs → NoLine bs
no_end bs lacks l more p e = no_cut 10 (text l) more (rw e at lacks)

pub no_record : (bs line rest : List ℕ) → Cut 10 bs line rest → ((l : Line) → Proper l → line ≡ text l → ⊥) → NoLine bs
no_record bs line rest cut none l more p e = none l p (same_cut 10 line (text l) rest more cut.1 (text_lacks l p) (sym cut.0 ∙ e)).0

-- the cursor behind the line
pub moved : (bs book line rest : List ℕ) (k : ℕ) → bs ≡ drop k book → bs ≡ line ++ 10 ∷ rest → drop (k + (length line + 1)) book ≡ rest
moved bs book line rest k at e =
    sym (drop-drop (length line + 1) k book) ∙ ap (drop (length line + 1)) (sym at ∙ e) ∙ sym (drop-drop 1 (length line) (line ++ 10 ∷ rest)) ∙ ap (drop 1) (drop_at line (10 ∷ rest) (length line) refl)

pub front_line : (bs left line rest after t : List ℕ) → bs ≡ left → bs ≡ line ++ 10 ∷ rest → line ≡ t → after ≡ rest → left ≡ t ++ 10 ∷ after
front_line bs left line rest after t a b d e = cc

-- a refusal of what has no line at its front
pub refused : (Q : RecordFault → Type 0) (r : Reader) (bs : List ℕ) (o : Result (Option Record) RecordFault) → bs ≡ unread r → false ≡ eqb (length bs) 0 → NoLine bs → IsErrAnd o Q → Next r o r
refused Q r bs (Err e) at some none is = (omega (arith, ap length at, eqb-false (length bs) 0 (sym some)), rw at at none, refl)
refused Q r bs (Ok x) at some none is = absurd is
