use Rattle.std.proofs.Common.{arith, rules}
use Rattle.text.specs.Fields.{IsName}
use Rattle.text.proofs.Numerals.{name_lacks}
use Rattle.records.proofs.FirstField.{exact_field, own_text}
use Rattle.records.proofs.fields.name_field.Goals as goal

pub returns : goal.returns
returns c = exact_field (λ s. s.now) _ IsName (λ bs. bs) (λ a n. name_lacks 9 a (λ p. omega arith) n) _ c.args.bytes.now c.field.result c.field.ensures (λ front r k. own_text _ IsName front.now r (search rules))
