use Rattle.std.proofs.Common.{rules, arith}
use Rattle.edits.proofs.pairs.paired_with.Goals as goal

pub returns : goal.returns
returns g c = record { test = λ y l. let t = c.below_where.ensures.test y l (omega arith) in let e = t.1 in (t.0, search rules, t.2) }
