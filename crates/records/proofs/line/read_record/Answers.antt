-- A line has one word and one rest.
use Rattle.std.proofs.Common.{arith, rules}
use Rattle.std.proofs.lemmas.Result.{MatchResult-from_err}
use Rattle.text.specs.Fields.{Cut}
use Rattle.records.specs.Lines.{word, fields}
use Rattle.records.specs.Words.{spelled}
use Rattle.records.proofs.FirstField.{same_field}
use Rattle.records.proofs.Spelling.{word_lacks}
use Rattle.records.proofs.line.read_record.Goals as goal

pub returns-in_err-word : goal.returns-in_err-word
returns-in_err-word c =
    MatchResult-from_err _ _ _ c.from_residual-in_err-word.ensures.0 (λ _ l p e.
    let cut : Cut 9 c.args.line.now c.in_ok-first.first.now c.in_ok-first.fields.now = search rules in
    c.in_err-word.ensures.1 (word l) (same_field _ _ _ (spelled (word l)) (fields l) cut (word_lacks 9 (word l) (omega arith)) e).0)
