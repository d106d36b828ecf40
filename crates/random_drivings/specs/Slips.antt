-- What a call makes of the position that is taken and of the one that its slip bears.
use Rattle.std.specs.Prelude.{◌≡◌, ℕ, Ok, Err, Result, None, Option}
use Rattle.runs.specs.declared.fault.RunFault.{RunFault}

-- a take: with nothing taken, it takes what the new slip bears; or the new slip is blank
abbrev pub Gives : (taken : Option ℕ) → Result (Unit {0}) RunFault → (slip taken' : Option ℕ) → Type 0
Gives taken (Ok x) slip taken' = (taken ≡ None) × (slip ≡ taken')
Gives taken (Err fault) slip taken' = (slip ≡ None) × (taken' ≡ taken)

-- a call by a slip: it frees the position taken, which the slip bears; or both stay
abbrev pub Frees : (taken slip : Option ℕ) → Result (Unit {0}) RunFault → (taken' slip' : Option ℕ) → Type 0
Frees taken slip (Ok x) taken' slip' = (slip ≡ taken) × (taken' ≡ None) × (slip' ≡ None)
Frees taken slip (Err fault) taken' slip' = (taken' ≡ taken) × (slip' ≡ slip)
