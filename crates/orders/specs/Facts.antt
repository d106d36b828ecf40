-- What stands at a step's turn, and what is wanting.
use Rattle.std.specs.Prelude.{◌≡◌, ℕ, Bool, true, false, cond, not, ◌&&◌, ◌||◌, List, [], ◌∷◌, take, ◌==◌, nat_lt}
use Rattle.orders.specs.Running.{RunningOrder, place}
use Rattle.orders.specs.Sheets.{Outline}

-- the facts that the step at each position needs, adds and deletes (`needs p f`), the start set and the goal set
pub record Effects : Type 0 where
  pub needs : ℕ → ℕ → Bool
  pub adds : ℕ → ℕ → Bool
  pub deletes : ℕ → ℕ → Bool
  pub start : ℕ → Bool
  pub goal : ℕ → Bool

-- the facts after the step at x: its deletes go, then its adds come
abbrev pub performed : Effects → ℕ → (ℕ → Bool) → ℕ → Bool
performed e x facts f = e.adds x f || (facts f && not (e.deletes x f))

-- the facts after the steps of a list, without regard to their needs
abbrev pub after : Effects → (ℕ → Bool) → List ℕ → ℕ → Bool
after e facts [] = facts
after e facts (x ∷ rest) = after e (performed e x facts) rest

-- whether f stands at the turn of p; a p that is no entry has its turn at the end
abbrev pub stands : Effects → List ℕ → ℕ → ℕ → Bool
stands e order p f = after e e.start (take (place p order) order) f

-- whether f is needed at place p: by the step there, or as a goal fact at the place after the last step
abbrev pub needed : Outline → Effects → ℕ → ℕ → Bool
needed s e p f = cond (nat_lt p s.size) (e.needs p f) (p == s.size && e.goal f)

-- place p is wanting f: f is needed there, and in some running order it does not stand at p's turn
abbrev pub Wanting : Outline → Effects → ℕ → ℕ → Type 0
Wanting s e p f = (needed s e p f ≡ true) × ((order : List ℕ) × RunningOrder s order × (stands e order p f ≡ false))

-- a sheet is good when no place is wanting
abbrev pub Good : Outline → Effects → Type 0
Good s e = (p f : ℕ) → Wanting s e p f → ⊥
