use Rattle.std.proofs.Common.{false, ap, sym, ◌∙◌}
use Rattle.driving.specs.Meanings.{Meaning}
use Rattle.random_drivings.proofs.holding.Holding.open.Goals as goal

-- whatever the rig means, a run begins with nothing taken
pub invariant_of-result : goal.invariant_of-result
invariant_of-result c =
    let rig : Meaning = record { standing = λ f. false; left = 0 } in
    record { own = c.blank.ensures ∙ sym (ap (λ m. m.taken) (c.«open».ensures.opens rig)) }
