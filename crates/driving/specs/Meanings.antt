-- What a rig means, and what performing does to it.
use Rattle.std.specs.Prelude.{◌≡◌, ℕ, suc, ◌<◌, Bool, true, false, not, ◌&&◌, ◌||◌, Ok, Err, Result}

-- the facts that stand, and how many steps are left
pub record Meaning : Type 0 where
  pub standing : ℕ → Bool
  pub left : ℕ

-- why a rig refuses: a need does not stand, or no step is left
pub data RigFault : Type 0 where
  missing : ℕ → RigFault
  no_step_left : RigFault

-- every fact of the set stands
abbrev pub Stand : (ℕ → Bool) → (ℕ → Bool) → Type 0
Stand set standing = (f : ℕ) → set f ≡ true → standing f ≡ true

-- f is the lowest fact of the set that does not stand
pub record IsLowestMissing (set standing : ℕ → Bool) (f : ℕ) : Type 0 where
  pub asked : set f ≡ true
  pub missing : standing f ≡ false
  pub lowest : (g : ℕ) → g < f → set g ≡ true → standing g ≡ true

-- the deletes go, and then the adds come
abbrev pub performed : (ℕ → Bool) → (ℕ → Bool) → (ℕ → Bool) → ℕ → Bool
performed adds deletes standing f = adds f || (standing f && not (deletes f))

-- what a rig answers to an action: it performs it, with one step fewer left; or it refuses, and means what it did
abbrev pub Performs : (needs adds deletes : ℕ → Bool) → Meaning → Result (Unit {0}) RigFault → Meaning → Type 0
Performs needs adds deletes before (Ok x) after =
    Stand needs before.standing × (before.left ≡ suc after.left)
    × ((f : ℕ) → after.standing f ≡ performed adds deletes before.standing f)
Performs needs adds deletes before (Err (missing f)) after = IsLowestMissing needs before.standing f × (after ≡ before)
Performs needs adds deletes before (Err no_step_left) after = Stand needs before.standing × (before.left ≡ 0)
    × (after ≡ before)
