-- Lists that rise, read from the front.
use Rattle.std.proofs.Common.{◌≡◌, ℕ, zero, suc, ◌+◌, ◌<◌, ◌≤◌, Bool, true, ◌↔◌, List, [], ◌∷◌, length, get_or, refl, zero-le, add-one, arith}
use Rattle.text.specs.declared.list.Entries.{Entries}
use Rattle.text.specs.Fields.{IsList, IsNumbers, Rising, commas}
use Rattle.text.specs.Readers.{Left, Reads}

-- the first number is at least low, and each other is above the one before it
abbrev pub RisesFrom : ℕ → List ℕ → Type 0
RisesFrom low [] = Unit {0}
RisesFrom low (n ∷ ns) = (low ≤ n) × RisesFrom (n + 1) ns

pub rising_from : (low : ℕ) (ns : List ℕ) → RisesFrom low ns → Rising ns
rising_from low [] r k h = absurd (omega arith)
rising_from low (n ∷ []) r k h = absurd (omega arith)
rising_from low (n ∷ m ∷ ns) r zero h = omega (arith, r.1.0)
rising_from low (n ∷ m ∷ ns) r (suc k) h =
    rw (add-one (suc k)) (rw (add-one k) at (rising_from (n + 1) (m ∷ ns) r.1 k (omega arith)))

pub from_rising : (low : ℕ) (ns : List ℕ) → (0 < length ns → low ≤ get_or ns 0 0) → Rising ns → RisesFrom low ns
from_rising low [] first r = tt
from_rising low (n ∷ ns) first r = (
  first (omega arith),
  from_rising (n + 1) ns (λ h. omega (arith, r 0 (omega arith))) (λ k h. rw (add-one k) (rw (add-one (suc k)) at (r (suc k) (omega arith)))),
)

-- some list is left of e that rises from low, where it has to
abbrev pub SomeLeft : Bool → Entries → ℕ → Type 0
SomeLeft rising e low = (ns : List ℕ) × Left e ns × (rising ≡ true → RisesFrom low ns)

pub some_list : (rising : Bool) (e : Entries) (text : List ℕ) → ((ns : List ℕ) → Left e ns ↔ IsList text ns) → SomeLeft rising e 0 ↔ ((ns : List ℕ) × IsNumbers rising ns × (text ≡ commas ns))
some_list rising e text whole = (
  λ s. let is = (whole s.0).0 s.1 in (s.0, (is.0, λ must. rising_from 0 s.0 (s.2 must)), is.1),
  λ s. (s.0, (whole s.0).1 (s.1.0, s.2), λ must. from_rising 0 s.0 (λ some. zero-le) (s.1.1 must)),
)

pub some_more : (rising : Bool) (e e' : Entries) (low n : ℕ) → Reads (Left e) (n ∷ []) e' → (rising ≡ true → low ≤ n) → SomeLeft rising e low ↔ SomeLeft rising e' (n + 1)
some_more rising e e' low n reads fits = (
  λ s. let next = (reads.lists s.0).0 s.1 in (next.0, next.2, λ must. (rw next.1 at (s.2 must)).1),
  λ s. (n ∷ s.0, (reads.lists (n ∷ s.0)).1 (s.0, refl, s.1), λ must. (fits must, s.2 must)),
)
