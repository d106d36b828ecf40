-- What comes of a take, a done and a put back, one behind the other.
use Rattle.std.proofs.Common.{◌≡◌, ℕ, Some, None, Option, Result, Ok, Err, refl, ap, sym, ◌∙◌, subst, inl, inr}
use Rattle.driving.specs.Calls.{Bears, Does, Moment, PutsBack, Takes, TakesAndDoes, Work}
use Rattle.runs.specs.Faults.{told, why}
use Rattle.runs.specs.declared.fault.RunFault.{RunFault}
use Rattle.runs.specs.declared.fault.RunFault.TheVariants.{NoPosition, NotOpen, NoSlip, UnknownAction, Rig}

-- a take that is refused gives a blank slip and changes nothing
take_refused : (w : Work) (m : Moment) (p : ℕ) (fault : RunFault) (slip : Option ℕ) (n : Moment) → Takes w m p (Err (why fault)) slip n → (slip ≡ None) × (n ≡ m)
take_refused w m p NoPosition slip n h = (h.1, h.2)
take_refused w m p NotOpen slip n h = (h.2, h.3)
take_refused w m p NoSlip slip n h = absurd h
take_refused w m p UnknownAction slip n h = absurd h
take_refused w m p (Rig at) slip n h = absurd h

-- a done that is refused changes nothing
done_refused : (w : Work) (m : Moment) (p : ℕ) (fault : RunFault) (slip : Option ℕ) (n : Moment) → Bears m (Some p) p → Does w m (Some p) (Err (why fault)) slip n → (slip ≡ Some p) × (n ≡ m)
done_refused w m p NoPosition slip n b h = absurd h
done_refused w m p NotOpen slip n b h = absurd h
done_refused w m p NoSlip slip n b h = absurd (h.0 p b)
done_refused w m p UnknownAction slip n b h = (h.3, h.4)
done_refused w m p (Rig at) slip n b h = (h.3, h.4)

-- what is taken can be put back
put_back_works : (m : Moment) (p : ℕ) (r : Result (Unit {0}) RunFault) (slip : Option ℕ) (n : Moment) → Bears m (Some p) p → PutsBack m (Some p) (told r) slip n
    → (slip ≡ None) × (n ≡ record { taken = None; done = m.done; rig = m.rig })
put_back_works m p (Ok x) slip n b h = (h.2, h.3)
put_back_works m p (Err NoPosition) slip n b h = absurd h
put_back_works m p (Err NotOpen) slip n b h = absurd h
put_back_works m p (Err NoSlip) slip n b h = absurd (h.0 p b)
put_back_works m p (Err UnknownAction) slip n b h = absurd h
put_back_works m p (Err (Rig at)) slip n b h = absurd h

module _ (w : Work) (m : Moment) (p : ℕ) where
  -- a take that is refused
  pub take_ends : (fault : RunFault) (slip : Option ℕ) (n : Moment) → Takes w m p (Err (why fault)) slip n → TakesAndDoes w m p (Err (why fault)) n
  take_ends fault slip n t =
      let e = take_refused w m p fault slip n t in
      let P : Option ℕ → Moment → Type 0 = λ s k. Takes w m p (Err (why fault)) s k in
      (inl (subst (λ s. P s m) e.0 (subst (P slip) e.1 t)), e.1)

  module _ (slip : Option ℕ) (n : Moment) (t : Takes w m p (Ok tt) slip n) where
    bears : Bears n (Some p) p
    bears = (refl, ap (λ k. k.taken) t.2)

    -- the take, with its slip by what it bears
    takes : Takes w m p (Ok tt) (Some p) n
    takes = (t.0, refl, t.2)

    -- put back, the moment is as it was before the take
    back : record { taken = None; done = n.done; rig = n.rig } ≡ m
    back = ap (λ k. record { taken = None; done = k.done; rig = k.rig }) t.2 ∙ sym (ap (λ q. record { taken = q; done = m.done; rig = m.rig }) t.0.nothing)

    -- a take, and then a done that is refused and a put back
    pub done_ends : (fault : RunFault) (s2 : Option ℕ) (n2 : Moment) → Does w n slip (Err (why fault)) s2 n2
        → (r : Result (Unit {0}) RunFault) (s3 : Option ℕ) (n3 : Moment) → PutsBack n2 s2 (told r) s3 n3
        → (s3 ≡ None) × TakesAndDoes w m p (Err (why fault)) n3
    done_ends fault s2 n2 does r s3 n3 back' =
        let does' = subst (λ s. Does w n s (Err (why fault)) s2 n2) t.1 does in
        let e = done_refused w n p fault s2 n2 bears does' in
        let P : Option ℕ → Moment → Type 0 = λ s k. Does w n (Some p) (Err (why fault)) s k in
        let at_n = subst (λ s. P s n) e.0 (subst (P s2) e.1 does') in
        let works = put_back_works n p r s3 n3 bears (subst (λ k. PutsBack k (Some p) (told r) s3 n3) e.1 (subst (λ s. PutsBack n2 s (told r) s3 n3) e.0 back')) in
        (works.0, (inr (n, takes, at_n), works.1 ∙ back))

    -- a take, and then a done
    pub done_goes_on : (s2 : Option ℕ) (n2 : Moment) → Does w n slip (Ok tt) s2 n2 → (s2 ≡ None) × TakesAndDoes w m p (Ok tt) n2
    done_goes_on s2 n2 does =
        let does' = subst (λ s. Does w n s (Ok tt) s2 n2) t.1 does in
        (does'.6, (n, takes, subst (λ s. Does w n (Some p) (Ok tt) s n2) does'.6 does'))
