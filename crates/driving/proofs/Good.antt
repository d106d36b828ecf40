-- Over a good sheet every driving serves.
use Rattle.std.proofs.Common.{◌≡◌, ℕ, ◌<◌, true, List, [], ◌∷◌, ◌++◌, length, Ok, Err, Result, Option, refl, sym, ap, ◌∙◌, arith}
use Rattle.std.proofs.lemmas.Bool.{both_ways, true_from_ne_false}
use Rattle.std.proofs.lemmas.Bool.Decides.{nat_tests}
use Rattle.std.proofs.lemmas.List.{append_assoc, get_or_at, length-append, take_all, take_at}
use Rattle.orders.proofs.DrivingOpen.{no_dead_end}
use Rattle.orders.proofs.DrivingOrders.{driven_fits, driven_push, driven_room, driving_ends_running, driving_is_front}
use Rattle.orders.proofs.Places.{has_all}
use Rattle.orders.proofs.Wanting.{place_end}
use Rattle.orders.specs.Driving.{Driven, Open as OpenAfter}
use Rattle.orders.specs.Facts.{Effects, Good, after, needed, stands}
use Rattle.orders.specs.Running.{Has, RunningOrder, place}
use Rattle.orders.specs.Sheets.{Outline, Rules}
use Rattle.driving.proofs.Done.{Tells, done_has, drives_told, open_now, undone_lacks}
use Rattle.driving.specs.Calls.{Does, Moment, RunFault, Work}
use Rattle.driving.specs.Calls.RunFault.{refused, unknown}
use Rattle.driving.specs.Drivings.{Begins, RefusesStep, Serves}
use Rattle.driving.specs.Meanings.{Meaning}
use Rattle.driving.specs.Meanings.RigFault.{missing, no_step_left}
use Rattle.driving.specs.Theorems.{AllKnown, GoodSheetServes}

-- at a position the needs of its step are needed, at the place after the last step the goal facts
pub needed_step : (s : Outline) (e : Effects) (p f : ℕ) → p < s.size → needed s e p f ≡ e.needs p f
needed_step s e p f h = grind (arith, nat_tests)

pub needed_end : (s : Outline) (e : Effects) (f : ℕ) → needed s e s.size f ≡ e.goal f
needed_end s e f = grind (arith, nat_tests)

-- at the place after the last step of a running order stands what is there after all steps
pub stands_end : (s : Outline) → Rules s → (e : Effects) (order : List ℕ) → RunningOrder s order → (f : ℕ) →
    stands e order s.size f ≡ after e e.start order f
stands_end s rules e order running f =
    ap (λ l. after e e.start l f) (take_all (place s.size order) order (omega (arith, place_end s rules order running)))

-- the place of an entry is the length of what is ahead of it
place_behind : (s : Outline) (l : List ℕ) (p : ℕ) (rest : List ℕ) → RunningOrder s (l ++ p ∷ rest) → place p (l ++ p ∷ rest) ≡ length l
place_behind s l p rest running =
    rw (get_or_at l p rest 0 (length l) refl) at (running.once (length l) (omega (arith, length-append l (p ∷ rest))))

module _ (s : Outline) (rules : Rules s) (e : Effects) (good : Good s e) where
  -- in a running order all stands that is needed
  good_stands : (order : List ℕ) → RunningOrder s order → (p f : ℕ) → needed s e p f ≡ true → stands e order p f ≡ true
  good_stands order running p f h = true_from_ne_false (stands e order p f) (λ n. good p f (h, (order, running, n)))

  -- what an open step needs stands after what is done
  pub need_stands : (l : List ℕ) → Driven s l → (p f : ℕ) → OpenAfter s l p → e.needs p f ≡ true → after e e.start l f ≡ true
  need_stands l driven p f o h =
      let (rest, front) = driving_is_front s rules (l ++ p ∷ []) (driven_push s l p driven o) in
      let order = l ++ p ∷ rest in
      let running = rw append_assoc at front in
      let ahead = take_at l (p ∷ rest) (place p order) (sym (place_behind s l p rest running)) in
      sym (ap (λ k. after e e.start k f) ahead) ∙ good_stands order running p f (needed_step s e p f o.position ∙ h)

  -- a goal fact stands when all is done
  goal_stands : (l : List ℕ) → Driven s l → ((x : ℕ) → x < s.size → Has l x) → (f : ℕ) → e.goal f ≡ true → after e e.start l f ≡ true
  goal_stands l driven all f h =
      let running = driving_ends_running s rules l driven (omega (arith, driven_fits s l driven, has_all s.size l all)) in
      sym (stands_end s rules e l running f) ∙ good_stands l running s.size f (needed_end s e f ∙ h)

module _ (w : Work) (rules : Rules w.order) (known : AllKnown w) (good : Good w.order w.effects) (rig : Meaning) (begins : Begins w rig) where
  module _ (m : Moment) (l : List ℕ) (t : Tells w rig m l) where
    -- no answer of done refuses its step
    none_refused : (n : Moment) (slip slip' : Option ℕ) (answer : Result (Unit {0}) RunFault) →
        Does w m slip answer slip' n → RefusesStep answer → ⊥
    none_refused n slip slip' (Err unknown) (p, bears, lacks, _, _) r = both_ways (w.known p) lacks (known p (t.taken p bears.1).position)
    none_refused n slip slip' (Err (refused p (missing f))) (bears, _, (lowest, _), _, _) r =
        both_ways (m.rig.standing f) lowest.missing
        (t.standing f ∙ need_stands w.order rules w.effects good l t.driven p f (t.taken p bears.1) lowest.asked)
    none_refused n slip slip' (Err (refused p no_step_left)) (bears, _, (_, none, _), _, _) r =
        let o = t.taken p bears.1 in
        omega (arith, driven_room w.order l p t.driven o.position o.undone, t.left, begins.enough_left, none)
    none_refused n slip slip' (Ok x) d r = r
    none_refused n slip slip' (Err other) d r = r

    serves : Serves w m
    serves = record {
      no_step_refused = λ (slip, slip', (answer, (n, d, r))). none_refused n slip slip' answer d r;
      no_dead_end = λ (p, h, undone) none.
          let (q, o) = no_dead_end w.order rules l t.driven (driven_room w.order l p t.driven h (undone_lacks w rig m l t p undone)) in
          (q, open_now w rig m l t none q o);
      ends_with_goal = λ all f h.
          t.standing f ∙ goal_stands w.order rules w.effects good l t.driven (λ x g. done_has w rig m l t x (all x g)) f h;
    }

pub good_sheet_serves : GoodSheetServes
good_sheet_serves w rules known good rig begins m drives =
    let (l, t) = drives_told w rig begins drives in
    serves w rules known good rig begins m l t
