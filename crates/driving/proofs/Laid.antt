-- A good sheet can be done as laid, step by step.
use Rattle.std.proofs.Common.{◌≡◌, ℕ, suc, ◌<◌, [], ◌∷◌, ◌++◌, length, get_or, take, Ok, Some, None, refl, sym, ap, ◌∙◌, subst, arith}
use Rattle.std.proofs.Math.Seq.{take-suc}
use Rattle.std.proofs.lemmas.List.{take_all}
use Rattle.std.proofs.lemmas.List.FromFn.{get_or-range_with_len, length-range_with_len}
use Rattle.std.proofs.lemmas.Option.{same_Some}
use Rattle.orders.proofs.DrivingOrders.{running_open}
use Rattle.orders.proofs.Home.{home_is_running}
use Rattle.orders.specs.Driving.{Open}
use Rattle.orders.specs.Facts.{Good}
use Rattle.orders.specs.Running.{home}
use Rattle.orders.specs.Sheets.{Outline, Rules}
use Rattle.driving.proofs.Done.{Tells, can_do, can_take, doing, has_done, taking, tells_done, tells_open, tells_opening}
use Rattle.driving.proofs.Good.{good_sheet_serves, need_stands}
use Rattle.driving.specs.Calls.{Moment, TakesAndDoes, Work}
use Rattle.driving.specs.Drivings.{AllDone, AsLaid, Begins, Drives}
use Rattle.driving.specs.Drivings.AsLaid.{next, none}
use Rattle.driving.specs.Drivings.Drives.{did, opened, took}
use Rattle.driving.specs.Meanings.{Meaning, Stand}
use Rattle.driving.specs.Theorems.{AllKnown, GoodSheetServesAsLaid, ServesAsLaid}

-- a step that is taken and done goes on with a driving
pub drives_on : (w : Work) (rig : Meaning) {m n : Moment} (p : ℕ) → Drives w rig m → TakesAndDoes w m p (Ok tt) n → Drives w rig n
drives_on w rig {m} {n} p d (taken, takes, does) = did {m = taken} (Some p) None (Ok tt) (took {m = m} p (Ok tt) (Some p) d takes) does

-- what is done as laid is a driving
pub laid_drives : (w : Work) (rig : Meaning) {k : ℕ} {m : Moment} → AsLaid w rig k m → Drives w rig m
laid_drives w rig none = opened
laid_drives w rig (next {k} {m} after l h done) = drives_on w rig {m = m} k (laid_drives w rig l) done

module _ (s : Outline) (k : ℕ) (h : k < s.size) where
  -- each position stands at its own place in the home order
  home_at : get_or (home s) k 0 ≡ k
  home_at = get_or-range_with_len 0 s.size k 0 h ∙ omega arith

  -- and is open after those ahead of it
  home_open : Rules s → Open s (take k (home s)) k
  home_open rules =
      let here : k < length (home s) = omega (arith, length-range_with_len 0 s.size) in
      subst (Open s (take k (home s))) home_at (running_open s (home s) (home_is_running s rules) k here)

  -- with which it comes next
  home_more : take (suc k) (home s) ≡ take k (home s) ++ k ∷ []
  home_more = take-suc (home s) k 0 (omega (arith, length-range_with_len 0 s.size)) ∙ ap (λ x. take k (home s) ++ x ∷ []) home_at

module _ (w : Work) (rules : Rules w.order) (rig : Meaning) (begins : Begins w rig) where
  -- where the first k steps are done as laid, the first k positions and no others are done
  laid_tells : {k : ℕ} {m : Moment} → AsLaid w rig k m → Tells w rig m (take k (home w.order))
  laid_tells none = tells_opening w rig begins
  laid_tells (next {k} {m} after l h (taken, (_, _, e), does)) =
      let done = take k (home w.order) in
      let o = tells_open w rig m done (laid_tells l) k (home_open w.order k h rules) in
      let t = subst (λ (n : Moment). Tells w rig n done) (sym e) o in
      let u = tells_done w rig taken done t after (Some k) None tt does in
      let same : does.0 ≡ k = sym (same_Some k does.0 does.1.0) in
      rw (home_more w.order k h) (subst (λ p. Tells w rig after (done ++ p ∷ [])) same u)

  -- and nothing is taken
  laid_free : {k : ℕ} {m : Moment} → AsLaid w rig k m → m.taken ≡ None
  laid_free none = refl
  laid_free (next after l h (taken, takes, does)) = does.4

  module _ (known : AllKnown w) (good : Good w.order w.effects) where
    -- the next step can be taken and done
    laid_goes_on : (k : ℕ) (m : Moment) → AsLaid w rig k m → k < w.order.size → (after : Moment) × TakesAndDoes w m k (Ok tt) after
    laid_goes_on k m l h =
        let t = laid_tells l in
        let done = take k (home w.order) in
        let o = home_open w.order k h rules in
        let stand : Stand (w.effects.needs k) m.rig.standing =
        λ f need. t.standing f ∙ need_stands w.order rules w.effects good done t.driven k f o need in
        (doing w m k, (taking m k, can_take w rig m done t (laid_free l) k o, can_do w rig m done t begins k o (known k h) stand))

    -- after the last step all are done
    laid_all : (m : Moment) → AsLaid w rig w.order.size m → AllDone w m
    laid_all m l x h =
        let whole = take_all w.order.size (home w.order) (omega (arith, length-range_with_len 0 w.order.size)) in
        has_done w rig m (home w.order) (rw whole at (laid_tells l)) x ((home_is_running w.order rules).complete x h)

    -- a good sheet serves as it is laid
    serves_as_laid : ServesAsLaid w rig
    serves_as_laid = record {
      goes_on = laid_goes_on;
      ends = λ m l.
          let all = laid_all m l in
          (all, (good_sheet_serves w rules known good rig begins m (laid_drives w rig l)).ends_with_goal all);
    }

pub good_sheet_serves_as_laid : GoodSheetServesAsLaid
good_sheet_serves_as_laid w rules known good rig begins = serves_as_laid w rules rig begins known good
