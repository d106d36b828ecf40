-- Over a sheet that is wanting a fact, calls along the running order in which it does not stand lead to a failing.
use Rattle.std.proofs.Common.{◌≡◌, ℕ, zero, suc, ◌<◌, ◌≤◌, Bool, true, false, not, ◌&&◌, ◌⊎◌, List, [], ◌∷◌, ◌++◌, length, get_or, take, Ok, Err, Some, None, refl, sym, ◌∙◌, inl, inr, ⊎_elim, arith}
use Rattle.std.proofs.lemmas.Bool.{both_ways, cases_lt, true_from_ne_false}
use Rattle.std.proofs.lemmas.List.{take_all}
use Rattle.std.proofs.Math.Seq.{take-suc}
use Rattle.orders.proofs.DrivingOrders.{running_open}
use Rattle.orders.proofs.DrivingPlaces.{was_open}
use Rattle.orders.proofs.Least.{known_true, least}
use Rattle.orders.proofs.Places.{place_le}
use Rattle.orders.proofs.Wanting.{needed_place}
use Rattle.orders.specs.Driving.{Driven, Open as OpenAfter}
use Rattle.orders.specs.Facts.{stands}
use Rattle.orders.specs.Running.{RunningOrder, place}
use Rattle.orders.specs.Sheets.{Rules}
use Rattle.driving.proofs.Done.{Tells, can_do, can_take, doing, has_done, taking, tells_next, tells_opening}
use Rattle.driving.proofs.Good.{needed_end, needed_step, stands_end}
use Rattle.driving.specs.Calls.{Moment, Work, opening}
use Rattle.driving.specs.Calls.RunFault.{refused}
use Rattle.driving.specs.Drivings.{Begins, Drives, Fails}
use Rattle.driving.specs.Drivings.Drives.{did, opened, took}
use Rattle.driving.specs.Meanings.{IsLowestMissing, Meaning, Stand}
use Rattle.driving.specs.Meanings.RigFault.{missing}
use Rattle.driving.specs.Theorems.{AllKnown, BadSheetFails, NeedsBelow}

-- all needs stand, or the lowest that does not is found
settled : (needs standing : ℕ → Bool) (n : ℕ) → ((f : ℕ) → needs f ≡ true → f < n) →
    Stand needs standing ⊎ ((f : ℕ) × IsLowestMissing needs standing f)
settled needs standing n below = ⊎_elim
    (λ l. inr (
      l.at,
      record {
        asked = grind (arith, l.holds);
        missing = grind (arith, l.holds);
        lowest = λ g h a. true_from_ne_false (standing g) (λ b. l.first g h (grind (arith, a, b)));
      },
    ))
    (λ none. inl (λ f a. true_from_ne_false (standing f) (λ b. none f (below f a) (grind (arith, a, b)))))
    (least (λ f. (needs f && not (standing f)) ≡ true) (λ f. known_true (needs f && not (standing f))) n)

-- calls lead to a moment at which the positions of the list and no others are done, and nothing is taken
record Reached (w : Work) (rig : Meaning) (l : List ℕ) : Type 0 where
  now : Moment
  drives : Drives w rig now
  tells : Tells w rig now l
  free : now.taken ≡ None

module _ (w : Work) (rules : Rules w.order) (known : AllKnown w) (n : ℕ) (below : NeedsBelow w n) (rig : Meaning) (begins : Begins w rig) where
  -- calls lead to a moment that fails
  abbrev Failing : Type 0
  Failing = (m : Moment) × Drives w rig m × Fails w m

  module _ (l : List ℕ) (r : Reached w rig l) (p : ℕ) (o : OpenAfter w.order l p) where
    takes : Drives w rig (taking r.now p)
    takes = took {m = r.now} p (Ok tt) (Some p) r.drives (can_take w rig r.now l r.tells r.free p o)

    -- where a need does not stand, the step is refused
    refuses : (f : ℕ) → IsLowestMissing (w.effects.needs p) r.now.rig.standing f → Failing
    refuses f lowest = (
      taking r.now p,
      takes,
      inl (Some p, Some p, (Err (refused p (missing f)), (taking r.now p, ((refl, refl), known p o.position, (lowest, refl), refl, refl), tt))),
    )

    -- where all stand, it is done
    goes_on : Stand (w.effects.needs p) r.now.rig.standing → Reached w rig (l ++ p ∷ [])
    goes_on stand =
        let k = known p o.position in record {
          now = doing w r.now p;
          drives = did {m = taking r.now p} (Some p) None (Ok tt) takes (can_do w rig r.now l r.tells begins p o k stand);
          tells = tells_next w rig r.now l r.tells begins p o k stand;
          free = refl;
        }

    step : Failing ⊎ (Stand (w.effects.needs p) r.now.rig.standing × Reached w rig (l ++ p ∷ []))
    step = ⊎_elim
        (λ stand. inr (stand, goes_on stand))
        (λ (f, lowest). inl (refuses f lowest))
        (settled (w.effects.needs p) r.now.rig.standing n (λ f. below p f o.position))

  module _ (order : List ℕ) (running : RunningOrder w.order order) where
    driven : Driven w.order order
    driven = running_open w.order order running

    -- calls go along the order until a step is refused
    along : (k : ℕ) → k ≤ length order → Failing ⊎ Reached w rig (take k order)
    along zero h = inr (record { now = opening rig; drives = opened; tells = tells_opening w rig begins; free = refl })
    along (suc k) h = ⊎_elim
        inl
        (λ r. ⊎_elim inl (λ (stand, more). inr (rw (take-suc order k 0 h) more)) (step (take k order) r (get_or order k 0) (driven k h)))
        (along k (omega arith))

    -- at the latest at the step with a need that does not stand at its turn
    fails_step : (p f : ℕ) → p < w.order.size → w.effects.needs p f ≡ true → stands w.effects order p f ≡ false → Failing
    fails_step p f h need lacks = ⊎_elim
        (λ g. g)
        (λ r. ⊎_elim
        (λ g. g)
        (λ (stand, _). absurd (both_ways (r.now.rig.standing f) (r.tells.standing f ∙ lacks) (stand f need)))
        (step (take (place p order) order) r p (was_open w.order order driven p (running.complete p h))))
        (along (place p order) (place_le p order))

    -- or they come to the end, where a goal fact is missing
    fails_end : (f : ℕ) → w.effects.goal f ≡ true → stands w.effects order w.order.size f ≡ false → Failing
    fails_end f goal lacks = ⊎_elim
        (λ g. g)
        (λ r.
        let t = rw (take_all (length order) order (omega arith)) at r.tells in (
          r.now,
          r.drives,
          inr (
            λ x h. has_done w rig r.now order t x (running.complete x h),
            (f, goal, t.standing f ∙ (sym (stands_end w.order rules w.effects order running f) ∙ lacks)),
          ),
        ))
        (along (length order) (omega arith))

pub bad_sheet_fails : BadSheetFails
bad_sheet_fails w rules known n below p f (need, (order, running, lacks)) rig begins = ⊎_elim
    (λ h. fails_step w rules known n below rig begins order running p f h (sym (needed_step w.order w.effects p f h) ∙ need) lacks)
    (λ h.
    let e : p ≡ w.order.size = omega (arith, needed_place w.order w.effects p f need) in
    fails_end w rules known n below rig begins order running f
    (sym (needed_end w.order w.effects f) ∙ (rw e at need))
    (rw e at lacks))
    (cases_lt p w.order.size)
