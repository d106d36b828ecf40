use Rattle.std.proofs.Common.{◌&&◌, ltb, arith, rules}
use Rattle.std.proofs.lemmas.Bool.Decides.{nat_tests}
use Rattle.sheet.proofs.RowLaws.{made_is}
use Rattle.sheet.proofs.sheet.laying.all_ties.Goals as goal

pub returns : goal.returns
returns c =
    made_is _ (λ i j. ltb i j && ltb j c.args.n) c.by_first_rows.result.rows c.args.n c.by_first_rows.ensures.rows c.by_first_rows.ensures.past
    (λ i set l made j. search rules) (λ i j l. grind (arith, nat_tests))
