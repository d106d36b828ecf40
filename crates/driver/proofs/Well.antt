-- Over a good sheet a driving ends well.
use Rattle.std.proofs.Common.{◌≡◌, ℕ, true, ◌⊎◌, Some, None, Result, Ok, Err, inl, inr, refl, ap, sym, subst, ◌∙◌, ⊎_elim, arith}
use Rattle.driver.specs.Ends.{DoesAsLaid, DoesWell, EndedWell, Ends, EndsWell, Follows, Picks, PicksAmiss}
use Rattle.driver.specs.Ends.Follows.{begun, went}
use Rattle.driving.proofs.Good.{good_sheet_serves}
use Rattle.driving.proofs.Laid.{drives_on, good_sheet_serves_as_laid, laid_drives}
use Rattle.driving.specs.Calls.{Bears, Does, Moment, Open, RefusedAt, Takes, Work}
use Rattle.driving.specs.Drivings.{AsLaid, Begins, Drives, Serves}
use Rattle.driving.specs.Drivings.Drives.{opened, took}
use Rattle.driving.specs.Meanings.{Meaning}
use Rattle.driving.specs.Theorems.{AllKnown}
use Rattle.orders.specs.Facts.{Good}
use Rattle.orders.specs.Sheets.{Rules}
use Rattle.runs.specs.Faults.{why}
use Rattle.runs.specs.declared.fault.RunFault.{RunFault}
use Rattle.runs.specs.declared.fault.RunFault.TheVariants.{NoPosition, NotOpen, NoSlip, UnknownAction, Rig}
use Rattle.sets.specs.declared.bits.BitSet.{BitSet}

module _ (w : Work) (m : Moment) (p : ℕ) (fault : RunFault) where
  -- a take is refused only where the position is not open
  take_not_open : (f : RunFault) → Takes w m p (Err (why f)) None m → Open w.order m p → ⊥
  take_not_open NoPosition t o = omega (arith, t.0, o.position)
  take_not_open NotOpen t o = t.1 o
  take_not_open NoSlip t o = t
  take_not_open UnknownAction t o = t
  take_not_open (Rig at) t o = t

  -- and for no other reason
  take_choice : (f : RunFault) → Takes w m p (Err (why f)) None m → (f ≡ NoPosition) ⊎ (f ≡ NotOpen)
  take_choice NoPosition t = inl refl
  take_choice NotOpen t = inr refl
  take_choice NoSlip t = absurd t
  take_choice UnknownAction t = absurd t
  take_choice (Rig at) t = absurd t

  -- and where no step is refused, no done with the slip of an accepted take is
  done_not_refused : (taken : Moment) → Serves w taken → Bears taken (Some p) p → (f : RunFault) → Does w taken (Some p) (Err (why f)) (Some p) taken → ⊥
  done_not_refused taken serves bears NoPosition d = d
  done_not_refused taken serves bears NotOpen d = d
  done_not_refused taken serves bears NoSlip d = d.0 p bears
  done_not_refused taken serves bears UnknownAction d = serves.no_step_refused (Some p, Some p, (Err (why UnknownAction), (taken, d, tt)))
  done_not_refused taken serves bears (Rig at) d = serves.no_step_refused (Some p, Some p, (Err (why (Rig at)), (taken, d, tt)))

module _ (w : Work) (rules : Rules w.order) (known : AllKnown w) (good : Good w.order w.effects) (rig : Meaning) (begins : Begins w rig) where
  -- every moment of a driving serves
  serves : (m : Moment) → Drives w rig m → Serves w m
  serves = good_sheet_serves w rules known good rig begins

  -- so a step is refused only where its position is not open
  refused_not_open : (m : Moment) (p : ℕ) (fault : RunFault) → Drives w rig m → RefusedAt w m p (why fault) → Open w.order m p → ⊥
  refused_not_open m p fault d r o = ⊎_elim
      (λ t. take_not_open w m p fault fault t o)
      (λ (taken, takes, does). done_not_refused w m p fault taken
      (serves taken (took {m = m} p (Ok tt) (Some p) d takes)) (refl, ap (λ k. k.taken) takes.2) fault does)
      r

  -- and the refusal is one of the choice
  refused_choice : (m : Moment) (p : ℕ) (fault : RunFault) → Drives w rig m → RefusedAt w m p (why fault) → (fault ≡ NoPosition) ⊎ (fault ≡ NotOpen)
  refused_choice m p fault d r = ⊎_elim
      (λ t. take_choice w m p fault fault t)
      (λ (taken, takes, does). absurd (done_not_refused w m p fault taken
      (serves taken (took {m = m} p (Ok tt) (Some p) d takes)) (refl, ap (λ k. k.taken) takes.2) fault does))
      r

  -- which it is at no position in home order
  does_well : (rig' : Meaning) (r : Result (Unit {0}) RunFault) → DoesAsLaid w rig r rig' → (r ≡ Ok tt) × ((f : ℕ) → w.effects.goal f ≡ true → rig'.standing f ≡ true)
  does_well rig' (Ok x) (k, (last, laid, is, all)) = (
    refl,
    λ f goal.
        let whole = subst (λ i. AsLaid w rig i last) all laid in
        sym (ap (λ m. m.standing f) is) ∙ ((good_sheet_serves_as_laid w rules known good rig begins).ends last whole).1 f goal,
  )
  does_well rig' (Err fault) (k, (last, laid, is, (less, refused))) =
      let (after, (taken, takes, does)) = (good_sheet_serves_as_laid w rules known good rig begins).goes_on k last laid less in
      absurd (refused_not_open last k fault (laid_drives w rig laid) refused takes.0)

  module _ {C : Type 0} (picks : C → BitSet 2 → ℕ → C → Type 0) (first : C) where
    -- what a closure picks one after another is a driving, with nothing taken
    follows_drives : {c : C} {m : Moment} → Follows picks w rig first c m → Drives w rig m
    follows_drives begun = opened
    follows_drives (went {c} {m} p d n follows asks done) = drives_on w rig {m = m} p (follows_drives follows) done

    follows_free : {c : C} {m : Moment} → Follows picks w rig first c m → m.taken ≡ None
    follows_free begun = refl
    follows_free (went p d n follows asks (taken, takes, does)) = does.4

    -- where its step is refused, it had an open position to pick
    picks_amiss : (c : C) (m : Moment) (p : ℕ) (d : C) (fault : RunFault) (rig' : Meaning) → Follows picks w rig first c m → m.rig ≡ rig' →
        Picks picks w m c p d → RefusedAt w m p (why fault) → PicksAmiss picks w rig first rig'
    picks_amiss c m p d fault rig' follows is asks refused =
        let drives = follows_drives follows in
        let open_one = (serves m drives).no_dead_end asks.undone (follows_free follows) in
        (c, (m, follows, is, (p, (d, asks, refused_not_open m p fault drives refused, open_one))))

    ended_well : (rig' : Meaning) (r : Result (Unit {0}) RunFault) → Ends picks w rig first r rig' → EndedWell picks w rig first r rig'
    ended_well rig' (Ok x) (c, (last, follows, is, all)) = λ f goal.
        sym (ap (λ m. m.standing f) is) ∙ (serves last (follows_drives follows)).ends_with_goal all f goal
    ended_well rig' (Err fault) (c, (last, follows, is, (p, (d, asks, refused)))) = (
      refused_choice last p fault (follows_drives follows) refused,
      picks_amiss c last p d fault rig' follows is asks refused,
    )

-- a driving by what a closure picks ends well
pub ends_well : {C : Type 0} (picks : C → BitSet 2 → ℕ → C → Type 0) (w : Work) → Rules w.order → (rig : Meaning) (first : C)
    (r : Result (Unit {0}) RunFault) (rig' : Meaning) → Ends picks w rig first r rig' → EndsWell picks w rig first r rig'
ends_well picks w rules rig first r rig' ends known good begins =
    ended_well w rules known good rig begins picks first rig' r ends

-- and a plan is done as laid
pub laid_well : (w : Work) → Rules w.order → (rig : Meaning) (r : Result (Unit {0}) RunFault) (rig' : Meaning) → DoesAsLaid w rig r rig' → DoesWell w rig r rig'
laid_well w rules rig r rig' laid known good begins = does_well w rules known good rig begins rig' r laid
