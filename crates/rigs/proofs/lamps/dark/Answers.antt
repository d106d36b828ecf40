use Rattle.std.proofs.Common.{◌≡◌, true, ◌&&◌, ◌==◌, slice_index, ⊎_elim, arith, rules}
use Rattle.std.proofs.lemmas.Bool.{cases_lt}
use Rattle.std.proofs.lemmas.Bool.Decides.{nat_tests}
use Rattle.sets.proofs.Members.{member_room, members_where}
use Rattle.sets.specs.Member.{member}
use Rattle.task.specs.declared.tasks.TheConstants.Task.{MOST_FACTS}
use Rattle.rigs.specs.Lamps.{fits}
use Rattle.rigs.proofs.lamps.dark.Goals as goal

pub returns : goal.returns
returns c f =
    let lamps = c.args.lamps.now in
    let set = member c.args.set.now.words in
    let right : fits lamps ≡ true = grind (arith, nat_tests) in
    let h = members_where MOST_FACTS c.below_where.result _ (λ j. set j && slice_index lamps j == 0) (omega arith) c.below_where.ensures.test c.below_where.ensures.bound (λ j b l r. search rules) f in
    ⊎_elim (λ l. grind (arith, nat_tests)) (λ l. let m = member_room c.args.set.now f (omega arith) in grind (arith, nat_tests)) (cases_lt f MOST_FACTS)
