use Rattle.std.proofs.Common.{false, eqb, ltb, ◌≡◌, ◌&&◌, arith}
use Rattle.std.proofs.lemmas.Bool.Decides.{nat_tests}
use Rattle.sheet.proofs.RowLaws.{row_set}
use Rattle.sheet.proofs.relation.Relation.with_row.Goals as goal
use Rattle.sheet.proofs.relation.Relation.with_row.Goals.{then-i-lt128, else-i-lt128}

pub returns : goal.returns
returns c k j = elim c.if-i-lt128.branch [
  | then-i-lt128 w ↦
      let t : (eqb k c.args.i && ltb c.args.i 128) ≡ eqb k c.args.i = let l = w.if-i-lt128.true in grind (arith, nat_tests) in
      rw (w.rows-is, t) (row_set c.args.self.now.rows c.args.i c.args.set.now (omega (arith, c.args.self.now.size, w.if-i-lt128.true)) k j)
  | else-i-lt128 w ↦
      let t : (eqb k c.args.i && ltb c.args.i 128) ≡ false = let l = w.if-i-lt128.false in grind (arith, nat_tests) in
      rw (w.rows-is, t)
]
