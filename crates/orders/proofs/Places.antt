-- The place of a number in a list.
use Rattle.std.proofs.Common.{◌≡◌, ℕ, zero, suc, ◌+◌, ◌-◌, ◌<◌, ◌≤◌, min, eqb, ◌⊎◌, List, [], ◌∷◌, length, get_or, sym, ap, ◌∙◌, inl, inr, ⊎_elim, arith}
use Rattle.std.proofs.lemmas.Bool.{cases_eq, cases_lt, cond-false, cond-true, eq-eqb, ne_eqb}
use Rattle.std.specs.List.{range_with_len}
use Rattle.orders.proofs.Pigeonhole.{differ_fit}
use Rattle.orders.specs.Running.{Has, place}

pub place_here : (x y : ℕ) (l : List ℕ) → x ≡ y → place x (y ∷ l) ≡ 0
place_here x y l e = cond-true (eqb x y) 0 (suc (place x l)) (eq-eqb x y e)

pub place_there : (x y : ℕ) (l : List ℕ) → (x ≡ y → ⊥) → place x (y ∷ l) ≡ suc (place x l)
place_there x y l n = cond-false (eqb x y) 0 (suc (place x l)) (ne_eqb x y n)

-- x is the head of the list or goes by what follows
abbrev pub AtHead : ℕ → ℕ → List ℕ → Type 0
AtHead x y l = ((x ≡ y) × (place x (y ∷ l) ≡ 0)) ⊎ ((x ≡ y → ⊥) × (place x (y ∷ l) ≡ suc (place x l)))

pub cases_place : (x y : ℕ) (l : List ℕ) → AtHead x y l
cases_place x y l = ⊎_elim (λ e. inl (e, place_here x y l e)) (λ n. inr (n, place_there x y l n)) (cases_eq x y)

pub place_le : (x : ℕ) (l : List ℕ) → place x l ≤ length l
place_le x [] = omega arith
place_le x (y ∷ l) = let ih = place_le x l in grind (arith, cases_place x y l)

pub place_absent : (x : ℕ) (l : List ℕ) → (Has l x → ⊥) → place x l ≡ length l
place_absent x l n = ⊎_elim (λ h. absurd (n h)) (λ h. omega (arith, place_le x l)) (cases_lt (place x l) (length l))

pub get_or-place : (x : ℕ) (l : List ℕ) → Has l x → get_or l (place x l) 0 ≡ x
get_or-place x [] h = omega arith
get_or-place x (y ∷ l) h = go (get_or-place x l) (cases_place x y l)
  where
    go : (Has l x → get_or l (place x l) 0 ≡ x) → AtHead x y l → get_or (y ∷ l) (place x (y ∷ l)) 0 ≡ x
    go ih (inl (e, p)) = rw p (sym e)
    go ih (inr (n, p)) = rw p (ih (omega arith))

pub place_same : (x y : ℕ) (l : List ℕ) → Has l x → place x l ≡ place y l → x ≡ y
place_same x y l h e = sym (get_or-place x l h) ∙ (ap (λ k. get_or l k 0) e ∙ get_or-place y l (omega arith))

-- a list that has every number below n has n entries or more
pub has_all : (n : ℕ) (l : List ℕ) → ((x : ℕ) → x < n → Has l x) → n ≤ length l
has_all n l all = differ_fit n (length l) (λ x. place x l) (record { below = all; apart = λ x y h g. place_same x y l (all x h) })

pub place_counting : (x a n : ℕ) → a ≤ x → place x (range_with_len a n) ≡ min (x - a) n
place_counting x a zero h = omega arith
place_counting x a (suc n) h = ⊎_elim
    (λ e. e.1 ∙ omega (arith, e.0))
    (λ e. e.1 ∙ (ap suc (place_counting x (a + 1) n (omega (arith, e.0))) ∙ omega (arith, e.0)))
    (cases_place x a (range_with_len (a + 1) n))
