-- What the positions that go into the check are.
use Rattle.std.specs.Prelude.{◌≡◌, ℕ, Bool, ◌&&◌, ◌||◌, List, nat_lt}
use Rattle.orders.specs.Check.{inside, together}
use Rattle.orders.specs.Sheets.{Outline}
use Rattle.sets.specs.declared.bits.BitSet.{BitSet}
use Rattle.sheet.specs.Rows.{in_row}

-- the positions first to last, and no others, are the part of i against j
abbrev pub IsPart : Outline → ℕ → ℕ → ℕ → ℕ → Type 0
IsPart s i j first last = (x : ℕ) → together s x i j ≡ inside first last x

-- the positions that are behind d or in the part of p, and in the part of d or ahead of p
abbrev pub AreForced : Outline → ℕ → ℕ → (ℕ → Bool) → (ℕ → Bool) → Type 0
AreForced s d p ahead set = (x : ℕ) → set x ≡ (nat_lt x s.size && ((s.tied d x || together s x p d) && (together s x d p || ahead x)))

-- row p has what the test says of p
abbrev pub IsTable : {W : ℕ} → List (BitSet W) → (ℕ → ℕ → Bool) → Type 0
IsTable rows test = (p f : ℕ) → in_row rows p f ≡ test p f
