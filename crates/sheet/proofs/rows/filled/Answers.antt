use Rattle.std.proofs.Common.{◌∙◌, arith, refl}
use Rattle.std.proofs.lemmas.List.{get_or-replicate, get_or-set_other, length-set}
use Rattle.sheet.proofs.RowLaws.{entry_made}
use Rattle.sheet.proofs.rows.filled.Goals as goal

pub loop-i-init : goal.loop-i-init
loop-i-init g c = (refl, λ k l. absurd (omega arith), λ k l m d. get_or-replicate 128 k c.args.fill d m)

pub loop-i-preserved : goal.loop-i-preserved
loop-i-preserved g c =
    let (long, made, rest) = c.loop-i.invariant in
    let entries = c.loop-i.entries in
    let i = c.loop-i.i in
    let x = c.entry.result in (
      length-set entries i x ∙ long,
      entry_made _ entries i x (omega arith) made c.entry.ensures,
      λ k l m d. get_or-set_other entries i k x d (λ e. omega (arith, e)) ∙ rest k (omega arith) m d,
    )

pub returns-clause-entries : goal.returns-clause-entries
returns-clause-entries g c i l = c.loop-i.invariant.1 i (omega (arith, c.loop-i-test.false))
