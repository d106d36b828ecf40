-- What `take` answers where just some positions are open.
use Rattle.std.proofs.Common.{◌≡◌, ℕ, Bool, true, false, cond, List, [], ◌∷◌, Ok, Err, Decides, Result, Some, None, Option, nat_lt, refl, sym, ◌∙◌, subst, arith}
use Rattle.std.proofs.lemmas.Bool.{false≢true, le-ltb, lt-ltb, ltb-false, ltb-true}
use Rattle.std.proofs.lemmas.Bool.Decides.{nat_tests}
use Rattle.std.proofs.lemmas.Option.{none-some}
use Rattle.driving.proofs.Done.{has}
use Rattle.driving.specs.Calls.{Moment, Open as OpenNow, RunFault, Takes, Work}
use Rattle.driving.specs.Calls.RunFault.{not_open, position}
use Rattle.orders.proofs.Places.{cases_place}
use Rattle.orders.specs.Driving.{Open}
use Rattle.orders.specs.Lists.{listed}
use Rattle.orders.specs.Sheets.{Outline}
use Rattle.smallsheets.specs.Rows.{Call, Each, IsMoment, MayTake, TakesJust, call_for, leaves_it, takes_it}

listed_has : (done : List ℕ) (x : ℕ) → listed done x ≡ has done x
listed_has [] x = refl
listed_has (y ∷ done) x = let ih = listed_has done x in grind (arith, nat_tests, cases_place x y done)

-- what is open after the positions of a list is open at a moment with these done and nothing taken, and the other way round
module _ (s : Outline) (done : List ℕ) (m : Moment) (is : IsMoment done None m) (p : ℕ) where
  same : (x : ℕ) → m.done x ≡ has done x
  same x = is.same_done x ∙ listed_has done x

  open_now : Open s done p → OpenNow s m p
  open_now o = record {
    nothing = is.same_taken;
    position = o.position;
    undone = same p ∙ le-ltb _ _ o.undone;
    due = λ i h. same i ∙ lt-ltb _ _ (o.due i h);
    entered = λ a b x y block in-x in-y h l. o.entered a b x y block in-x in-y (ltb-true _ _ (sym (same x) ∙ h)) (ltb-false _ _ (sym (same y) ∙ l));
  }

  open_after : OpenNow s m p → Open s done p
  open_after o = record {
    position = o.position;
    undone = ltb-false _ _ (sym (same p) ∙ o.undone);
    due = λ i h. ltb-true _ _ (sym (same i) ∙ o.due i h);
    entered = λ a b x y block in-x in-y h l. o.entered a b x y block in-x in-y (same x ∙ lt-ltb _ _ h) (same y ∙ le-ltb _ _ l);
  }

-- the one call that is allowed, by whether p is open and whether it is a position
module _ (w : Work) (m : Moment) (p : ℕ) where
  taken_one : OpenNow w.order m p → (answer : Result (Unit {0}) RunFault) (slip : Option ℕ) (after : Moment) → Takes w m p answer slip after
      → ◌≡◌ {A = Call} (record { answer = answer; slip = slip; after = after }) (takes_it m p)
  taken_one o (Ok x) slip after (_, e, f) = λ i. record { answer = Ok tt; slip = e i; after = f i }
  taken_one o (Err position) slip after (l, _, _) = absurd (let k = o.position in omega arith)
  taken_one o (Err not_open) slip after (_, shut, _, _) = absurd (shut o)
  taken_one o (Err other) slip after h = absurd h

  left_one : (OpenNow w.order m p → ⊥) → (low : Bool) → nat_lt p w.order.size ≡ low → (answer : Result (Unit {0}) RunFault) (slip : Option ℕ) (after : Moment) → Takes w m p answer slip after
      → ◌≡◌ {A = Call} (record { answer = answer; slip = slip; after = after }) (leaves_it m (cond low not_open position))
  left_one shut low e (Ok x) slip after (o, _, _) = absurd (shut o)
  left_one shut false e (Err position) slip after (_, f, g) = λ i. record { answer = Err position; slip = f i; after = g i }
  left_one shut true e (Err position) slip after (l, _, _) = absurd (let k = ltb-true p w.order.size e in omega arith)
  left_one shut true e (Err not_open) slip after (_, _, f, g) = λ i. record { answer = Err not_open; slip = f i; after = g i }
  left_one shut false e (Err not_open) slip after (l, _, _, _) = absurd (let k = ltb-false p w.order.size e in omega arith)
  left_one shut low e (Err other) slip after h = absurd h

  may_leave : (OpenNow w.order m p → ⊥) → (low : Bool) → nat_lt p w.order.size ≡ low → MayTake w m p (leaves_it m (cond low not_open position))
  may_leave shut true e = (ltb-true _ _ e, shut, refl, refl)
  may_leave shut false e = (ltb-false _ _ e, refl, refl)

  one_call : (ready : Bool) → Decides ready (OpenNow w.order m p)
      → Each (MayTake w m p) (λ call. call ≡ cond ready (takes_it m p) (leaves_it m (cond (nat_lt p w.order.size) not_open position)))
  one_call true d = ((takes_it m p, (d.0 refl, refl, refl)), (λ call t. taken_one (d.0 refl) call.answer call.slip call.after t))
  one_call false d =
      let shut : OpenNow w.order m p → ⊥ = λ o. false≢true (d.1 o) in
      let low = nat_lt p w.order.size in
      ((leaves_it m (cond low not_open position), may_leave shut low refl), (λ call t. left_one shut low refl call.answer call.slip call.after t))

-- so just the positions can be taken that are open at each such moment
takes_just : (s : Outline) (done : List ℕ) (held : Option ℕ) (ready : List ℕ) → ((m : Moment) → IsMoment done held m → (p : ℕ) → Decides (listed ready p) (OpenNow s m p)) → TakesJust s.size s done held ready
takes_just s done held ready decides = (
  (record { order = s; effects = record { needs = λ p f. false; adds = λ p f. false; deletes = λ p f. false; start = λ f. false; goal = λ f. false }; known = λ p. true }, refl),
  λ w e. (
    (record { taken = held; done = listed done; rig = record { standing = λ f. false; left = 0 } }, record { same_done = λ p. refl; same_taken = refl }),
    λ m is p. subst (λ (o : Outline). Each (MayTake w m p) (λ call. call ≡ call_for o.size ready m p)) e
        (one_call w m p (listed ready p) (subst (λ (o : Outline). Decides (listed ready p) (OpenNow o m p)) (sym e) (decides m is p))),
  ),
)

pub takes_open : (s : Outline) (done ready : List ℕ) → ((p : ℕ) → Decides (listed ready p) (Open s done p)) → TakesJust s.size s done None ready
takes_open s done ready decides = takes_just s done None ready (λ m is p. (λ h. open_now s done m is p ((decides p).0 h), λ o. (decides p).1 (open_after s done m is p o)))

pub takes_none : (s : Outline) (done : List ℕ) (q : ℕ) → TakesJust s.size s done (Some q) []
takes_none s done q = takes_just s done (Some q) [] (λ m is p. (λ h. absurd (false≢true h), λ o. absurd (none-some q (sym o.nothing ∙ is.same_taken))))
