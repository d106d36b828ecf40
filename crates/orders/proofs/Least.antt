-- The least number with a property that can be decided.
use Rattle.std.proofs.Common.{◌≡◌, ℕ, zero, suc, ◌<◌, ◌≤◌, Bool, true, ◌⊎◌, subst, inl, inr, ⊎_elim, arith}
use Rattle.std.proofs.lemmas.Bool.{both_ways, cases_Bool, cases_lt}

-- A holds or does not
abbrev pub Known : Type 0 → Type 0
Known A = A ⊎ (A → ⊥)

pub known_true : (b : Bool) → Known (b ≡ true)
known_true b = ⊎_elim inl (λ h. inr (both_ways b h)) (cases_Bool b)

-- `a < b` is `suc a ≤ b`
pub known_le : (a b : ℕ) → Known (a ≤ b)
known_le a b = ⊎_elim (λ l. inr (λ h. omega arith)) inl (cases_lt b a)

pub known_both : {A B : Type 0} → Known A → Known B → Known (A × B)
known_both (inl a) (inl b) = inl (a, b)
known_both (inl a) (inr n) = inr (λ p. n p.1)
known_both (inr n) k = inr (λ p. n p.0)

-- a number below m has P, and none before it has
pub record Least (P : ℕ → Type 0) (m : ℕ) : Type 0 where
  pub at : ℕ
  pub below : at < m
  pub holds : P at
  pub first : (k : ℕ) → k < at → P k → ⊥

pub least : (P : ℕ → Type 0) → ((k : ℕ) → Known (P k)) → (m : ℕ) → Least P m ⊎ ((k : ℕ) → k < m → P k → ⊥)
least P known zero = inr (λ k h p. omega arith)
least P known (suc m) = go (least P known m) (known m)
  where
    go : Least P m ⊎ ((k : ℕ) → k < m → P k → ⊥) → Known (P m) → Least P (suc m) ⊎ ((k : ℕ) → k < suc m → P k → ⊥)
    go (inl l) k = inl (record { at = l.at; below = omega arith; holds = l.holds; first = l.first })
    go (inr none) (inl p) = inl (record { at = m; below = omega arith; holds = p; first = none })
    go (inr none) (inr n) = inr (λ k h p. ⊎_elim (λ l. none k l p) (λ l. n (subst P (omega arith) p)) (cases_lt k m))

pub known_below : (P : ℕ → Type 0) → ((k : ℕ) → Known (P k)) → (m : ℕ) → Known ((k : ℕ) × (k < m) × P k)
known_below P known m = ⊎_elim (λ l. inl (l.at, l.below, l.holds)) (λ none. inr (λ w. none w.0 w.1 w.2)) (least P known m)
