-- What a rig of lamps means, and the bytes that it borrows.
use Rattle.std.specs.Prelude.{◌≡◌, ℕ, List}
use Rattle.std.proofs.Common.{MutBor}
use Rattle.driving.specs.Meanings.{Meaning}
use Rattle.rigs.specs.Lamps.{LitOrKept, shown}
use Rattle.rigs.specs.declared.lamps.LampRig.{LampRig}

-- the bytes of the lamps
abbrev pub bytes_of : LampRig → List ℕ
bytes_of rig = rig.lamps.now

-- they are lent by that borrow
abbrev pub Borrows : LampRig → MutBor (List ℕ) → Type 0
Borrows rig lamps = rig.lamps.ghost_name ≡ lamps.ghost_name

-- what they show
abbrev pub meaning_of : LampRig → Meaning
meaning_of rig = shown (bytes_of rig) rig.left

-- the lamps of both are the same bytes of the caller's, and each is as it was, or 0, or 1
abbrev pub KeepsLamps : LampRig → LampRig → Type 0
KeepsLamps rig then = (then.lamps.ghost_name ≡ rig.lamps.ghost_name) × LitOrKept (bytes_of rig) (bytes_of then)
