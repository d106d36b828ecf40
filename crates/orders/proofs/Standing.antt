-- A fact that does not stand was never put up, or was taken down with nobody to put it up again.
use Rattle.std.proofs.Common.{◌≡◌, ℕ, zero, suc, ◌<◌, ◌≤◌, Bool, true, false, ◌⊎◌, List, [], ◌∷◌, length, get_or, take, sym, ap, ◌∙◌, inl, inr, ⊎_elim, arith}
use Rattle.std.proofs.lemmas.List.{get_or-take, length-take-le}
use Rattle.std.proofs.lemmas.Bool.{cases_Bool}
use Rattle.orders.proofs.Places.{get_or-place, place_le}
use Rattle.orders.specs.Check.{takes}
use Rattle.orders.specs.Facts.{Effects, after, performed, stands}
use Rattle.orders.specs.Running.{Earlier, RunningOrder, place}
use Rattle.orders.specs.Sheets.{Outline}

module _ (e : Effects) (f : ℕ) where
  -- no entry from index k on adds f
  abbrev None : ℕ → List ℕ → Type 0
  None k l = (j : ℕ) → k ≤ j → j < length l → e.adds (get_or l j 0) f ≡ false

  none_cons : (x : ℕ) (l : List ℕ) → e.adds x f ≡ false → None 0 l → None 0 (x ∷ l)
  none_cons x l h g zero = λ _ _. h
  none_cons x l h g (suc j) = λ _ m. g j (omega arith) (omega arith)

  none_past : (k x : ℕ) (l : List ℕ) → None k l → None (suc k) (x ∷ l)
  none_past k x l h zero = λ m _. absurd (omega arith)
  none_past k x l h (suc j) = λ m n. h j (omega arith) (omega arith)

  -- an entry takes f down, and none behind it adds it
  abbrev Down : List ℕ → Type 0
  Down l = (k : ℕ) × (k < length l) × (takes e (get_or l k 0) f ≡ true) × None (suc k) l

  after_none : (facts : ℕ → Bool) (l : List ℕ) → facts f ≡ false → None 0 l → after e facts l f ≡ false
  after_none facts [] h g = h
  after_none facts (x ∷ l) h g =
      let i = g 0 (omega arith) (omega arith) in
      after_none (performed e x facts) l (grind (arith, i, h)) (λ j m n. g (suc j) (omega arith) (omega arith))

  after_down : (facts : ℕ → Bool) (l : List ℕ) → Down l → after e facts l f ≡ false
  after_down facts [] (k, m, t, g) = absurd (omega arith)
  after_down facts (x ∷ l) (zero, m, t, g) = after_none (performed e x facts) l (grind (arith, t)) (λ j i n. g (suc j) (omega arith) (omega arith))
  after_down facts (x ∷ l) (suc k, m, t, g) = after_down (performed e x facts) l (k, omega arith, t, λ j i n. g (suc j) (omega arith) (omega arith))

  after_cases : (facts : ℕ → Bool) (l : List ℕ) → after e facts l f ≡ false → ((facts f ≡ false) × None 0 l) ⊎ Down l
  after_cases facts [] h = inl (h, λ j m n. absurd (omega arith))
  after_cases facts (x ∷ l) h = ⊎_elim
      (λ (g, none). ⊎_elim
      (λ k. inr (0, omega arith, grind (arith, g, k), none_past 0 x l none))
      (λ k. inl (k, none_cons x l (grind (arith, g)) none))
      (cases_Bool (facts f)))
      (λ (k, m, t, none). inr (suc k, omega arith, t, none_past (suc k) x l none))
      (after_cases (performed e x facts) l h)

-- in an order, at the turn of p: f was not there from the start, and no step ahead adds it
abbrev pub NeverPut : Outline → Effects → List ℕ → ℕ → ℕ → Type 0
NeverPut s e order p f = (e.start f ≡ false) × ((x : ℕ) → x < s.size → Earlier order x p → e.adds x f ≡ false)

-- or a step ahead takes it down, and none between that step and p adds it
abbrev pub TakenDown : Outline → Effects → List ℕ → ℕ → ℕ → Type 0
TakenDown s e order p f = (d : ℕ) × (d < s.size) × Earlier order d p × (takes e d f ≡ true) × ((x : ℕ) → x < s.size → Earlier order d x → Earlier order x p → e.adds x f ≡ false)

module _ (s : Outline) (e : Effects) (order : List ℕ) (runs : RunningOrder s order) (p f : ℕ) where
  front : List ℕ
  front = take (place p order) order

  long : length front ≡ place p order
  unfolding front
  long = length-take-le (place p order) order (place_le p order)

  entry : (j : ℕ) → j < place p order → get_or front j 0 ≡ get_or order j 0
  unfolding front
  entry j h = get_or-take (place p order) order j 0 h

  -- the steps from place k up to p add nothing, by index and by position
  none_from : (k : ℕ) → ((x : ℕ) → x < s.size → k ≤ place x order → Earlier order x p → e.adds x f ≡ false) → None e f k front
  none_from k h j m n =
      let l : j < place p order = omega (arith, long) in
      let r : j < length order = omega (arith, place_le p order) in
      let o = runs.once j r in
      ap (λ x. e.adds x f) (entry j l) ∙ h (get_or order j 0) (runs.positions j r) (omega arith) (omega arith)

  from_none : (k : ℕ) → None e f k front → (x : ℕ) → k ≤ place x order → Earlier order x p → e.adds x f ≡ false
  from_none k h x m n = sym (ap (λ x. e.adds x f) (entry (place x order) n ∙ get_or-place x order (omega (arith, place_le p order)))) ∙ h (place x order) m (omega (arith, long))

  pub stands_never : NeverPut s e order p f → stands e order p f ≡ false
  unfolding front
  stands_never (h, none) = after_none e f e.start front h (none_from 0 (λ x l _ g. none x l g))

  pub stands_taken : TakenDown s e order p f → stands e order p f ≡ false
  unfolding front
  stands_taken (d, l, m, t, none) = after_down e f e.start front
      (place d order, omega (arith, long), ap (λ x. takes e x f) (entry (place d order) m ∙ get_or-place d order (omega (arith, place_le p order))) ∙ t, none_from (suc (place d order)) none)

  pub stands_cases : stands e order p f ≡ false → NeverPut s e order p f ⊎ TakenDown s e order p f
  unfolding front
  stands_cases h = ⊎_elim
      (λ (g, none). inl (g, λ x _ l. from_none 0 none x (omega arith) l))
      (λ (k, m, t, none).
      let l : k < place p order = omega (arith, long) in
      let r : k < length order = omega (arith, place_le p order) in
      let o = runs.once k r in
      inr (get_or order k 0, runs.positions k r, omega arith, sym (ap (λ x. takes e x f) (entry k l)) ∙ t, λ x _ i j. from_none (suc k) none x (omega arith) j))
      (after_cases e f e.start front h)
