use Rattle.std.proofs.Common.{◌≡◌, ◌+◌, ◌≤◌, ◌&&◌, leb, add-one, sym, ◌∙◌, rules, arith}
use Rattle.shaping.proofs.GroupLaws.{none_ahead, tied_behind_more}
use Rattle.shaping.proofs.RangeLaws.{fold_from_Range}
use Rattle.shaping.proofs.run.Run.tied_behind.Goals as goal
use Rattle.orders.specs.Check.{some_below}
use Rattle.sets.specs.Member.{member}
use Rattle.sheet.specs.Sheets.{outline}

pub returns : goal.returns
returns c x =
    let s = outline c.args.self.now.sheet.now in
    let a = c.args.self.now.first in
    let all : member c.fold.result.words x ≡ some_below (c.args.self.now.last + 1) (λ y. leb a y && s.tied y x) =
    (fold_from_Range (λ i set. (a ≤ i) × (member set.words x ≡ some_below i (λ y. leb a y && s.tied y x))) _
    (λ i old new q (l, e) k. (search rules, (omega arith, tied_behind_more s a x i _ _ l e (search rules))))
    _ _ _ c.fold.ensures.ran (omega arith)
    (omega arith, c.empty.ensures x ∙ sym (none_ahead a a (λ y. s.tied y x) (omega arith)))).1 in
    let to_last = rw add-one at all in
    let cut = c.minus.ensures x in
    let run = c.positions.ensures x in
    grind (arith)
