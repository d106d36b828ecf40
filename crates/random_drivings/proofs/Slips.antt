-- What the rules of the calls make of the slip.
use Rattle.std.proofs.Common.{◌≡◌, ℕ, false, Some, None, Option, Ok, Err, Result, refl, ap, sym, ◌∙◌}
use Rattle.driving.specs.Calls.{Bears, Moment, PutsBack, Takes, Work}
use Rattle.driving.specs.Meanings.{Meaning}
use Rattle.random_drivings.specs.Slips.{Frees, Gives}
use Rattle.runs.specs.Faults.{told}
use Rattle.runs.specs.declared.fault.RunFault.{RunFault}
use Rattle.runs.specs.declared.fault.RunFault.TheVariants.{NoPosition, NotOpen, NoSlip, UnknownAction, Rig}

-- a rig, for calls that turn on none
abbrev pub bare : Meaning
bare = record { standing = λ _. false; left = 0 }

pub take_gives : (w : Work) (m : Moment) (p : ℕ) (r : Result (Unit {0}) RunFault) (slip : Option ℕ) (n : Moment)
    → Takes w m p (told r) slip n → Gives m.taken r slip n.taken
take_gives w m p (Ok x) slip n h = (h.0.nothing, h.1 ∙ sym (ap (λ (k : Moment). k.taken) h.2))
take_gives w m p (Err NoPosition) slip n h = (h.1, ap (λ (k : Moment). k.taken) h.2)
take_gives w m p (Err NotOpen) slip n h = (h.2, ap (λ (k : Moment). k.taken) h.3)
take_gives w m p (Err NoSlip) slip n h = absurd h
take_gives w m p (Err UnknownAction) slip n h = absurd h
take_gives w m p (Err (Rig at)) slip n h = absurd h

pub put_back_frees : (m : Moment) (slip : Option ℕ) (r : Result (Unit {0}) RunFault) (slip' : Option ℕ) (n : Moment)
    → PutsBack m slip (told r) slip' n → Frees m.taken slip r n.taken slip'
put_back_frees m slip (Ok x) slip' n h = (h.1.0 ∙ sym h.1.1, ap (λ (k : Moment). k.taken) h.3, h.2)
put_back_frees m slip (Err NoPosition) slip' n h = absurd h
put_back_frees m slip (Err NotOpen) slip' n h = absurd h
put_back_frees m slip (Err NoSlip) slip' n h = (ap (λ (k : Moment). k.taken) h.2, h.1)
put_back_frees m slip (Err UnknownAction) slip' n h = absurd h
put_back_frees m slip (Err (Rig at)) slip' n h = absurd h

bears_nothing : (m : Moment) (slip : Option ℕ) → slip ≡ m.taken → ((p : ℕ) → Bears m slip p → ⊥) → slip ≡ None
bears_nothing m None same h = refl
bears_nothing m (Some p) same h = absurd (h p (refl, sym same))

-- the slip that bears what is taken is blank once it is put back
pub put_back_clears : (m : Moment) (slip : Option ℕ) (r : Result (Unit {0}) RunFault) (slip' : Option ℕ) (n : Moment)
    → slip ≡ m.taken → PutsBack m slip (told r) slip' n → slip' ≡ None
put_back_clears m slip (Ok x) slip' n same h = h.2
put_back_clears m slip (Err NoPosition) slip' n same h = absurd h
put_back_clears m slip (Err NotOpen) slip' n same h = absurd h
put_back_clears m slip (Err NoSlip) slip' n same h = h.1 ∙ bears_nothing m slip same h.0
put_back_clears m slip (Err UnknownAction) slip' n same h = absurd h
put_back_clears m slip (Err (Rig at)) slip' n same h = absurd h
