use Rattle.std.proofs.Common.{decimal, arith, rules}
use Rattle.text.specs.Fields.{Small}
use Rattle.records.proofs.FirstField.{exact_field, number_lacks}
use Rattle.records.proofs.fields.number_field.Goals as goal

pub returns : goal.returns
returns c = exact_field (λ n. n) _ Small decimal (λ a s. number_lacks 9 a (omega arith) s) _ c.args.bytes.now c.field.result c.field.ensures (λ front r k. search rules)
