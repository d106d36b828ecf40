-- Driving: the positions are done one after another, each when it is open.
use Rattle.std.specs.Prelude.{◌≡◌, ℕ, ◌<◌, ◌≤◌, true, List, length, take, slice_index}
use Rattle.orders.specs.Running.{Has, place}
use Rattle.orders.specs.Sheets.{Inside, Outline}

-- x does not stand in the list
abbrev pub Lacks : List ℕ → ℕ → Type 0
Lacks done x = length done ≤ place x done

-- p may be done next, after the positions of the list
pub record Open (s : Outline) (done : List ℕ) (p : ℕ) : Type 0 where
  pub position : p < s.size
  pub undone : Lacks done p
  -- all positions tied before p are done
  pub due : (i : ℕ) → s.tied i p ≡ true → Has done i
  -- every block with some but not all positions done has p
  pub entered : (a b x y : ℕ) → s.block a b ≡ true → Inside a b x → Inside a b y → Has done x → Lacks done y → Inside a b p

-- every entry was open, given the entries ahead of it
abbrev pub Driven : Outline → List ℕ → Type 0
Driven s order = (k : ℕ) → k < length order → Open s (take k order) (slice_index order k)
