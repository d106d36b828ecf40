-- The positions done so far, as a list, and what they tell of a moment.
use Rattle.std.proofs.Common.{◌≡◌, ℕ, ◌+◌, ◌-◌, Bool, true, false, not, ◌&&◌, ◌||◌, eqb, ltb, List, [], ◌∷◌, ◌++◌, length, Ok, Err, Result, Some, None, Option, refl, sym, ap, ◌∙◌, subst, arith}
use Rattle.std.proofs.lemmas.Bool.{le-ltb, lt-ltb, ltb-false, ltb-true}
use Rattle.std.proofs.lemmas.Bool.Decides.{nat_tests}
use Rattle.std.proofs.lemmas.List.{length_push}
use Rattle.std.proofs.lemmas.Option.{none-some, same_Some}
use Rattle.orders.proofs.DrivingOrders.{driven_push, driven_room}
use Rattle.orders.proofs.Places.{cases_place}
use Rattle.orders.specs.Driving.{Driven, Lacks, Open as OpenAfter}
use Rattle.orders.specs.Facts.{Effects, after, performed}
use Rattle.orders.specs.Running.{Has, place}
use Rattle.driving.specs.Calls.{Does, Moment, Open, PutsBack, RunFault, Takes, Work, done_too, opening}
use Rattle.driving.specs.Calls.RunFault.{no_slip, not_open, position, refused, unknown}
use Rattle.driving.specs.Drivings.{Begins, Drives}
use Rattle.driving.specs.Drivings.Drives.{did, opened, put_back, took}
use Rattle.driving.specs.Meanings.{Meaning, Stand}

-- what stands after one more step
after-push : (e : Effects) (facts : ℕ → Bool) (l : List ℕ) (p f : ℕ) → after e facts (l ++ p ∷ []) f ≡ performed e p (after e facts l) f
after-push e facts [] p f = refl
after-push e facts (x ∷ l) p f = after-push e (performed e x facts) l p f

-- the list has x
abbrev pub has : List ℕ → ℕ → Bool
has l x = ltb (place x l) (length l)

-- with p put at its end, a list has p too
has-push : (l : List ℕ) (p x : ℕ) → has (l ++ p ∷ []) x ≡ (has l x || eqb x p)
has-push [] p x = grind (arith, nat_tests, cases_place x p [])
has-push (y ∷ l) p x = let ih = has-push l p x in grind (arith, nat_tests, cases_place x y l, cases_place x y (l ++ p ∷ []))

-- in a driving of that rig, the positions of the list and no others are done, one after another, and one that is taken is open after them
pub record Tells (w : Work) (rig : Meaning) (m : Moment) (l : List ℕ) : Type 0 where
  pub driven : Driven w.order l
  pub done : (x : ℕ) → m.done x ≡ has l x
  pub standing : (f : ℕ) → m.rig.standing f ≡ after w.effects w.effects.start l f
  pub left : length l + m.rig.left ≡ rig.left
  pub taken : (p : ℕ) → m.taken ≡ Some p → OpenAfter w.order l p

-- at the opening the list is empty
pub tells_opening : (w : Work) (rig : Meaning) → Begins w rig → Tells w rig (opening rig) []
tells_opening w rig begins = record {
  driven = λ k h. absurd (omega arith);
  done = λ x. refl;
  standing = begins.just_start;
  left = omega arith;
  taken = λ p e. absurd (none-some p e);
}

-- the moment with p taken
abbrev pub taking : Moment → ℕ → Moment
taking m p = record { taken = Some p; done = m.done; rig = m.rig }

-- and with its step done
abbrev pub doing : Work → Moment → ℕ → Moment
doing w m p = record {
  taken = None;
  done = done_too m.done p;
  rig = record { standing = performed w.effects p m.rig.standing; left = m.rig.left - 1 };
}

module _ (w : Work) (rig : Meaning) (m : Moment) (l : List ℕ) (t : Tells w rig m l) where
  -- done is in the list, undone is not
  pub done_has : (x : ℕ) → m.done x ≡ true → Has l x
  done_has x h = ltb-true (place x l) (length l) (sym (t.done x) ∙ h)

  pub has_done : (x : ℕ) → Has l x → m.done x ≡ true
  has_done x h = t.done x ∙ lt-ltb (place x l) (length l) h

  pub undone_lacks : (x : ℕ) → m.done x ≡ false → Lacks l x
  undone_lacks x h = ltb-false (place x l) (length l) (sym (t.done x) ∙ h)

  lacks_undone : (x : ℕ) → Lacks l x → m.done x ≡ false
  lacks_undone x h = t.done x ∙ le-ltb (place x l) (length l) h

  -- what is open at the moment is open after the list
  open_after : (p : ℕ) → Open w.order m p → OpenAfter w.order l p
  open_after p o = record {
    position = o.position;
    undone = undone_lacks p o.undone;
    due = λ i k. done_has i (o.due i k);
    entered = λ a b x y k i j h g. o.entered a b x y k i j (has_done x h) (lacks_undone y g);
  }

  -- and the other way round, where nothing is taken
  pub open_now : m.taken ≡ None → (p : ℕ) → OpenAfter w.order l p → Open w.order m p
  open_now none p o = record {
    nothing = none;
    position = o.position;
    undone = lacks_undone p o.undone;
    due = λ i k. has_done i (o.due i k);
    entered = λ a b x y k i j h g. o.entered a b x y k i j (done_has x h) (undone_lacks y g);
  }

  -- the list stays where only what is taken changes: to nothing, or to what is open
  tells_taken : (q : Option ℕ) → ((p : ℕ) → q ≡ Some p → OpenAfter w.order l p) →
      Tells w rig (record { taken = q; done = m.done; rig = m.rig }) l
  tells_taken q taken = record { driven = t.driven; done = t.done; standing = t.standing; left = t.left; taken = taken }

  tells_blank : Tells w rig (record { taken = None; done = m.done; rig = m.rig }) l
  tells_blank = tells_taken None (λ p e. absurd (none-some p e))

  pub tells_open : (p : ℕ) → OpenAfter w.order l p → Tells w rig (taking m p) l
  tells_open p o = tells_taken (Some p) (λ q e. subst (OpenAfter w.order l) (same_Some p q e) o)

  -- a step that is done comes to the end of the list
  pub tells_done : (n : Moment) (slip slip' : Option ℕ) (x : Unit {0}) (d : Does w m slip (Ok x) slip' n) → Tells w rig n (l ++ d.0 ∷ [])
  tells_done n slip slip' x (p, bears, known, (stand, left, standing), taken, done, blank) = record {
    driven = driven_push w.order l p t.driven (t.taken p bears.1);
    done = λ x. done x ∙ (ap (λ b. b || eqb x p) (t.done x) ∙ sym (has-push l p x));
    standing = λ f. standing f ∙ (
        ap (λ b. w.effects.adds p f || (b && not (w.effects.deletes p f))) (t.standing f)
        ∙ sym (after-push w.effects w.effects.start l p f)
        );
    left = omega (arith, t.left, length_push l p);
    taken = λ q e. absurd (cc (taken, e));
  }

  -- where nothing is taken, what is open after the list can be taken
  pub can_take : m.taken ≡ None → (p : ℕ) → OpenAfter w.order l p → Takes w m p (Ok tt) (Some p) (taking m p)
  can_take none p o = (open_now none p o, refl, refl)

  -- a moment that some list tells
  abbrev Told : Moment → Type 0
  Told n = (k : List ℕ) × Tells w rig n k

  -- the list stays where the moment is as told
  told_by : (k n : Moment) → Tells w rig k l → n ≡ k → Told n
  told_by k n u e = (l, subst (λ i. Tells w rig i l) (sym e) u)

  -- after each call some list tells the moment
  took_told : (n : Moment) (p : ℕ) (slip : Option ℕ) (answer : Result (Unit {0}) RunFault) → Takes w m p answer slip n → Told n
  took_told n p slip (Ok x) (o, _, e) = told_by (taking m p) n (tells_open p (open_after p o)) e
  took_told n p slip (Err position) h = told_by m n t h.2
  took_told n p slip (Err not_open) h = told_by m n t h.3
  took_told n p slip (Err other) h = absurd h

  did_told : (n : Moment) (slip slip' : Option ℕ) (answer : Result (Unit {0}) RunFault) → Does w m slip answer slip' n → Told n
  did_told n slip slip' (Ok x) h = (l ++ h.0 ∷ [], tells_done n slip slip' x h)
  did_told n slip slip' (Err no_slip) h = told_by m n t h.2
  did_told n slip slip' (Err unknown) h = told_by m n t h.4
  did_told n slip slip' (Err (refused p fault)) h = told_by m n t h.4
  did_told n slip slip' (Err other) h = absurd h

  put_back_told : (n : Moment) (slip slip' : Option ℕ) (answer : Result (Unit {0}) RunFault) → PutsBack m slip answer slip' n → Told n
  put_back_told n slip slip' (Ok x) h = told_by (record { taken = None; done = m.done; rig = m.rig }) n tells_blank h.3
  put_back_told n slip slip' (Err no_slip) h = told_by m n t h.2
  put_back_told n slip slip' (Err other) h = absurd h

-- a step that is open after the list, and all that it needs stands
module _ (w : Work) (rig : Meaning) (m : Moment) (l : List ℕ) (t : Tells w rig m l) (begins : Begins w rig) (p : ℕ) (o : OpenAfter w.order l p)
    (known : w.known p ≡ true) (stand : Stand (w.effects.needs p) m.rig.standing) where
  -- once it is taken it can be done
  pub can_do : Does w (taking m p) (Some p) (Ok tt) None (doing w m p)
  can_do = (
    p,
    (refl, refl),
    known,
    (stand, omega (arith, driven_room w.order l p t.driven o.position o.undone, t.left, begins.enough_left), λ f. refl),
    refl,
    λ q. refl,
    refl,
  )

  -- and comes to the end of the list
  pub tells_next : Tells w rig (doing w m p) (l ++ p ∷ [])
  unfolding can_do
  tells_next = tells_done w rig (taking m p) l (tells_open w rig m l t p o) (doing w m p) (Some p) None tt can_do

-- every moment that calls lead to is told by some list
pub drives_told : (w : Work) (rig : Meaning) → Begins w rig → {m : Moment} → Drives w rig m → (l : List ℕ) × Tells w rig m l
drives_told w rig begins opened = ([], tells_opening w rig begins)
drives_told w rig begins {m = n} (took {m = m} p answer slip d h) =
    let (l, t) = drives_told w rig begins d in
    took_told w rig m l t n p slip answer h
drives_told w rig begins {m = n} (did {m = m} slip slip' answer d h) =
    let (l, t) = drives_told w rig begins d in
    did_told w rig m l t n slip slip' answer h
drives_told w rig begins {m = n} (put_back {m = m} slip slip' answer d h) =
    let (l, t) = drives_told w rig begins d in
    put_back_told w rig m l t n slip slip' answer h
