use Rattle.std.proofs.Common.{sym, subst}
use Rattle.std.specs.List.{All}
use Rattle.comparing.proofs.Pushed.{all_pushed}
use Rattle.comparing.proofs.enumeration.Orders.permitted_by.Goals as goal
use Rattle.comparing.proofs.enumeration.Orders.permitted_by.Goals.{then-is_permitted, else-is_permitted}
use Rattle.comparing.specs.Orders.{KeepsTies, ties}
use Rattle.sets.specs.Contents.{contents}

pub loop-index-preserved : goal.loop-index-preserved
loop-index-preserved g c = elim c.if-is_permitted.branch [
  | then-is_permitted w ↦ subst (λ v. All (KeepsTies g.P.Position.numbers (ties c.args.model.now)) (contents v)) (sym w.all-is)
      (all_pushed (KeepsTies g.P.Position.numbers (ties c.args.model.now)) _ _ _ _ w.push.ensures c.loop-index.invariant (c.is_permitted.ensures w.if-is_permitted.true))
  | else-is_permitted w ↦ subst (λ v. All (KeepsTies g.P.Position.numbers (ties c.args.model.now)) (contents v)) (sym w.all-is) c.loop-index.invariant
]
