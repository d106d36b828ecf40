-- One more step of a driving, seen from the work that the run is over.
use Rattle.std.proofs.Common.{◌≡◌, ℕ, Ok, Err, ap, sym, subst}
use Rattle.driver.specs.Ends.{AreOpen, Follows, Picks}
use Rattle.driver.specs.Ends.Follows.{begun}
use Rattle.driving.specs.Calls.{Moment, RefusedAt, TakesAndDoes, Work, opening}
use Rattle.driving.specs.Drivings.{Undone}
use Rattle.driving.specs.Meanings.{Meaning}
use Rattle.runs.specs.Faults.{why}
use Rattle.runs.specs.declared.fault.RunFault.{RunFault}
use Rattle.sets.specs.declared.bits.BitSet.{BitSet}

module _ (v w : Work) (same : v ≡ w) (m n : Moment) (p : ℕ) where
  -- a step that is done, or refused with nothing changed
  pub done_over : TakesAndDoes v m p (Ok tt) n → TakesAndDoes w m p (Ok tt) n
  done_over t = subst (λ x. TakesAndDoes x m p (Ok tt) n) same t

  pub refused_over : (fault : RunFault) → TakesAndDoes v m p (Err (why fault)) n → RefusedAt w m p (why fault) × (m.rig ≡ n.rig)
  refused_over fault t = (subst (λ x. RefusedAt x m p (why fault)) same t.0, ap (λ k. k.rig) (sym t.1))

  -- what a closure picks
  module _ {C : Type 0} (picks : C → BitSet 2 → ℕ → C → Type 0) (c d : C) where
    pub picks_over : (ready : BitSet 2) → Undone v m → AreOpen v m ready → picks c ready p d → Picks picks w m c p d
    picks_over ready undone are_open picked =
        subst (λ x. Picks picks x m c p d) same (record { undone = undone; ready = ready; are_open = are_open; picked = picked })

-- at the opening nothing is picked yet
pub begins_over : {C : Type 0} (picks : C → BitSet 2 → ℕ → C → Type 0) (w : Work) (rig : Meaning) (first : C) (m : Moment) → m ≡ opening rig → Follows picks w rig first first m
begins_over picks w rig first m opens = subst (λ k. Follows picks w rig first first k) (sym opens) begun
