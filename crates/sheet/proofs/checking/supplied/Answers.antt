use Rattle.std.proofs.Common.{◌&&◌, sym, ap, ◌∙◌, arith}
use Rattle.std.proofs.lemmas.Bool.{cases_Bool}
use Rattle.orders.specs.Check.{some_below}
use Rattle.sets.specs.Member.{member}
use Rattle.sets.specs.declared.bits.BitSet.{BitSet}
use Rattle.sheet.proofs.Effects.{below_more}
use Rattle.sheet.proofs.checking.supplied.Goals as goal
use Rattle.sheet.proofs.checking.supplied.Goals.{then-has, else-has}
use Rattle.sheet.specs.Rows.{in_row}

pub loop-x-preserved : goal.loop-x-preserved
loop-x-preserved c f =
    let x = c.loop-x.x in
    let adds = in_row c.args.adds.now in
    let positions = member c.args.positions.now.words in
    let before = c.loop-x.invariant f in
    elim c.if-has.branch [
      | then-has w ↦
          let t = w.if-has.ensures in
          let now = ap (λ (set : BitSet 1). member set.words f) w.supplied-is in
          let put = w.union-supplied.ensures f in
          let here = w.row.ensures f in
          grind (arith, cases_Bool (adds x f), cases_Bool (some_below x (λ y. adds y f && positions y))) ∙ sym (below_more (λ y. adds y f && positions y) x)
      | else-has w ↦
          let t = w.if-has.ensures in
          let now = ap (λ (set : BitSet 1). member set.words f) w.supplied-is in
          grind (arith, cases_Bool (adds x f), cases_Bool (some_below x (λ y. adds y f && positions y))) ∙ sym (below_more (λ y. adds y f && positions y) x)
    ]
