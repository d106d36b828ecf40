use Rattle.std.proofs.Common.{arith, rules}
use Rattle.records.specs.Lines.{IsSetText}
use Rattle.records.proofs.FirstField.{exact_field, own_text, set_lacks}
use Rattle.records.proofs.fields.set_field.Goals as goal

pub returns : goal.returns
returns c = exact_field (λ s. s.now) _ IsSetText (λ bs. bs) (λ a s. set_lacks 9 a (omega arith) s) _ c.args.bytes.now c.field.result c.field.ensures (λ front r k. own_text _ IsSetText front.now r (search rules))
