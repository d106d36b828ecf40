use Rattle.std.proofs.Common.{arith, rules, ◌∙◌}
use Rattle.sets.proofs.Members.{members_where}
use Rattle.edits.proofs.SwapLaws.{carried_all}
use Rattle.edits.proofs.swapping.Runs.carried.Goals as goal
use Rattle.orders.specs.Edits.{comes}
use Rattle.sets.specs.Member.{member}

pub returns : goal.returns
returns c x =
    let runs = c.args.self.now in
    let set = c.args.set.now in
    members_where 128 c.below_where.result _ (λ y. member set.words (comes runs.first runs.second runs.last y)) (omega arith) c.below_where.ensures.test c.below_where.ensures.bound (λ j b l r. search rules) x
    ∙ carried_all runs.first runs.second runs.last runs.ahead runs.behind runs.room set x
