-- The positions of a sheet in the order that a relation gives them.
use Rattle.std.proofs.Common.{◌≡◌, ℕ, zero, suc, ◌<◌, ◌≤◌, Bool, true, false, cond, not, ◌&&◌, eqb, ltb, ◌⊎◌, List, [], ◌∷◌, length, get_or, sym, refl, ap, ◌∙◌, inl, inr, ⊎_elim, arith}
use Rattle.std.proofs.lemmas.Bool.{cases_Bool, cases_lt, false≢true, or_left}
use Rattle.std.proofs.lemmas.Bool.Decides.{nat_tests}
use Rattle.orders.proofs.Parts.{block_together, together_is}
use Rattle.orders.proofs.Places.{AtHead, place_absent, cases_place, place_here, place_le, place_there}
use Rattle.orders.proofs.Trees.{Keeps, clash}
use Rattle.orders.specs.Check.{leads, together}
use Rattle.orders.specs.Running.{Earlier, Has, RunningOrder, place}
use Rattle.orders.specs.Sheets.{Outline, Rules}

pub has_cons : (x y : ℕ) (l : List ℕ) → Has (y ∷ l) x → (x ≡ y) ⊎ Has l x
has_cons x y l h = ⊎_elim (λ c. inl c.0) (λ c. inr (omega (arith, c.1))) (cases_place x y l)

pub cons_has : (x y : ℕ) (l : List ℕ) → (x ≡ y) ⊎ Has l x → Has (y ∷ l) x
cons_has x y l h = ⊎_elim (λ c. omega (arith, c.1)) (λ c. ⊎_elim (λ e. absurd (c.0 e)) (λ g. omega (arith, c.1)) h) (cases_place x y l)

abbrev insert : (ℕ → ℕ → Bool) → ℕ → List ℕ → List ℕ
insert R x [] = x ∷ []
insert R x (y ∷ l) = cond (R x y) (x ∷ y ∷ l) (y ∷ insert R x l)

-- the numbers below n by R
abbrev pub sorted : (ℕ → ℕ → Bool) → ℕ → List ℕ
sorted R zero = []
sorted R (suc n) = insert R n (sorted R n)

-- each entry is ahead, by R, of all behind it
abbrev Sorted : (ℕ → ℕ → Bool) → List ℕ → Type 0
Sorted R [] = Unit {0}
Sorted R (x ∷ l) = ((y : ℕ) → Has l y → R x y ≡ true) × Sorted R l

module _ (R : ℕ → ℕ → Bool) where
  has_insert : (x y : ℕ) (l : List ℕ) → Has (insert R y l) x → (x ≡ y) ⊎ Has l x
  has_insert x y [] h = has_cons x y [] h
  has_insert x y (z ∷ l) h = (elim (R y z) as (λ b. Has (cond b (y ∷ z ∷ l) (z ∷ insert R y l)) x → (x ≡ y) ⊎ Has (z ∷ l) x) [
    | true ↦ has_cons x y (z ∷ l)
    | false ↦ λ h. ⊎_elim
        (λ e. inr (cons_has x z l (inl e)))
        (λ g. ⊎_elim inl (λ k. inr (cons_has x z l (inr k))) (has_insert x y l g))
        (has_cons x z (insert R y l) h)
  ]) h

  insert_has : (x y : ℕ) (l : List ℕ) → (x ≡ y) ⊎ Has l x → Has (insert R y l) x
  insert_has x y [] h = cons_has x y [] h
  insert_has x y (z ∷ l) h = elim (R y z) as (λ b. Has (cond b (y ∷ z ∷ l) (z ∷ insert R y l)) x) [
    | true ↦ cons_has x y (z ∷ l) h
    | false ↦ cons_has x z (insert R y l) (⊎_elim
        (λ e. inr (insert_has x y l (inl e)))
        (λ g. ⊎_elim inl (λ k. inr (insert_has x y l (inr k))) (has_cons x z l g))
        h)
  ]

  has_sorted : (x n : ℕ) → Has (sorted R n) x → x < n
  has_sorted x zero h = omega arith
  has_sorted x (suc n) h = ⊎_elim (λ e. omega arith) (λ g. omega (arith, has_sorted x n g)) (has_insert x n (sorted R n) h)

  sorted_has : (x n : ℕ) → x < n → Has (sorted R n) x
  sorted_has x zero h = omega arith
  sorted_has x (suc n) h = insert_has x n (sorted R n) (⊎_elim (λ l. inr (sorted_has x n l)) (λ l. inl (omega arith)) (cases_lt x n))

  module _ {S : ℕ → ℕ → ℕ → Bool} {L : ℕ → ℕ → Bool} (keeps : Keeps S L R) where
    sorted_insert : (x : ℕ) (l : List ℕ) → (Has l x → ⊥) → Sorted R l → Sorted R (insert R x l)
    sorted_insert x [] n h = (λ y g. absurd (omega arith), tt)
    sorted_insert x (y ∷ l) n (first, rest) = go (R x y) refl (sorted_insert x l (λ g. n (cons_has x y l (inr g))) rest)
      where
        go : (b : Bool) → R x y ≡ b → Sorted R (insert R x l) → Sorted R (cond b (x ∷ y ∷ l) (y ∷ insert R x l))
        go true e ih = (λ w g. ⊎_elim (λ i. rw i e) (λ k. keeps.trans x y w e (first w k)) (has_cons w y l g), (first, rest))
        go false e ih = (λ w g. ⊎_elim (λ i. rw i (keeps.total y x (λ j. n (cons_has x y l (inl (sym j)))) ∙ ap not e)) (first w) (has_insert w x l g), ih)

    sorted_is : (n : ℕ) → Sorted R (sorted R n)
    sorted_is zero = tt
    sorted_is (suc n) = sorted_insert n (sorted R n) (λ h. omega (arith, has_sorted n n h)) (sorted_is n)

    sorted_once : (l : List ℕ) → Sorted R l → (k : ℕ) → k < length l → place (get_or l k 0) l ≡ k
    sorted_once [] h k g = omega arith
    sorted_once (x ∷ l) h zero g = place_here x x l refl
    sorted_once (x ∷ l) (first, rest) (suc k) g =
        let ih = sorted_once l rest k (omega arith) in
        place_there (get_or l k 0) x l (λ e. false≢true (sym (keeps.irrefl x) ∙ (rw e at (first (get_or l k 0) (omega (arith, ih)))))) ∙ ap suc ih

    -- places go by R
    sorted_by : (l : List ℕ) → Sorted R l → (x y : ℕ) → Has l x → Has l y → R x y ≡ true → Earlier l x y
    sorted_by [] s x y h g r = omega arith
    sorted_by (z ∷ l) (first, rest) x y h g r = go (sorted_by l rest x y) (cases_place x z l) (cases_place y z l)
      where
        go : (Has l x → Has l y → R x y ≡ true → Earlier l x y) → AtHead x z l → AtHead y z l → Earlier (z ∷ l) x y
        go ih (inl (e, i)) (inl (d, j)) = absurd (false≢true (sym (keeps.irrefl z) ∙ (rw (e, d) at r)))
        go ih (inl (e, i)) (inr (d, j)) = omega (arith, i, j)
        go ih (inr (e, i)) (inl (d, j)) = absurd (clash keeps x z (rw d at r) (first x (omega (arith, i))))
        go ih (inr (e, i)) (inr (d, j)) = omega (arith, i, j, ih (omega (arith, i)) (omega (arith, j)) r)

module _ (s : Outline) (rules : Rules s) (R : ℕ → ℕ → Bool) (keeps : Keeps (together s) (leads s) R) where
  pub by_relation : (x p : ℕ) → x < s.size → p ≤ s.size → R x p ≡ true → Earlier (sorted R s.size) x p
  by_relation x p l m r = ⊎_elim
      (λ k. sorted_by R keeps (sorted R s.size) (sorted_is R keeps s.size) x p (sorted_has R x s.size l) (sorted_has R p s.size k) r)
      (λ k. omega (arith, sorted_has R x s.size l, place_absent p (sorted R s.size) (λ h. omega (arith, has_sorted R p s.size h))))
      (cases_lt p s.size)

  pub relation_by : (x p : ℕ) → x < s.size → p ≤ s.size → Earlier (sorted R s.size) x p → R x p ≡ true
  relation_by x p l m h = go (cases_Bool (R x p)) (cases_lt p s.size)
    where
      go : (R x p ≡ true) ⊎ (R x p ≡ false) → (p < s.size) ⊎ (s.size ≤ p) → R x p ≡ true
      go (inl r) k = r
      go (inr r) (inl k) = absurd (omega (arith, by_relation p x k (omega arith) (keeps.total p x (λ e. omega (arith, ap (λ v. place v (sorted R s.size)) e)) ∙ ap not r)))
      go (inr r) (inr k) = keeps.ties x p (grind (arith, nat_tests))

  pub sorted_runs : RunningOrder s (sorted R s.size)
  sorted_runs =
      let once = sorted_once R keeps (sorted R s.size) (sorted_is R keeps s.size) in
      record {
        positions = λ k h. has_sorted R (get_or (sorted R s.size) k 0) s.size (omega (arith, once k h));
        complete = λ x h. sorted_has R x s.size h;
        once = once;
        kept = λ i j h.
            let (l, m) = rules.forward i j h in
            by_relation i j (omega arith) (omega arith) (keeps.ties i j (or_left (s.tied i j) (ltb i s.size && eqb j s.size) h));
        unbroken = λ a b i x y h o u v g.
            let (l, m) = rules.proper a b h in
            let within = has_sorted R i s.size (omega (arith, place_le x (sorted R s.size))) in
            by_relation i y within (omega arith)
            (sym (keeps.parts x y i ((together_is s rules x y i).1 (block_together s x y i a b h u v o))) ∙ relation_by i x within (omega arith) g);
      }
