-- Runs of positions.
use Rattle.std.proofs.Common.{◌≡◌, ℕ, ◌<◌, ◌≤◌, true, false, ◌⊎◌, sym, ◌∙◌, inl, inr, ⊎_elim, arith}
use Rattle.std.proofs.lemmas.Bool.{both_ways, cases_lt}
use Rattle.std.proofs.lemmas.Bool.Decides.{same_from_decides, nat_tests}
use Rattle.orders.specs.Check.{inside}
use Rattle.orders.specs.Sheets.{Apart, Inside, Outline, Outside, Rules, Within}

-- two runs are apart, or one lies inside the other
abbrev pub Nested : ℕ → ℕ → ℕ → ℕ → Type 0
Nested a b c d = Apart a b c d ⊎ (Within a b c d ⊎ Within c d a b)

-- i is tied to x as to y
abbrev pub TiedAlike : Outline → ℕ → ℕ → ℕ → Type 0
TiedAlike s i x y = (s.tied i x ≡ s.tied i y) × (s.tied x i ≡ s.tied y i)

pub is_inside : (a b x : ℕ) → inside a b x ≡ true → Inside a b x
is_inside a b x h = (grind (arith, nat_tests, h), grind (arith, nat_tests, h))

pub inside_is : (a b x : ℕ) → Inside a b x → inside a b x ≡ true
inside_is a b x h = grind (arith, nat_tests)

pub outside_is : (a b x : ℕ) → Outside a b x → inside a b x ≡ false
outside_is a b x h = grind (arith, nat_tests)

pub not_inside : (a b x : ℕ) → (Inside a b x → ⊥) → Outside a b x
not_inside a b x n = ⊎_elim inl (λ l. ⊎_elim inr (λ m. absurd (n (l, m))) (cases_lt b x)) (cases_lt x a)

pub is_outside : (a b x : ℕ) → inside a b x ≡ false → Outside a b x
is_outside a b x h = not_inside a b x (λ i. both_ways (inside a b x) h (inside_is a b x i))

pub same_inside : (c d x u v y : ℕ) → (Inside c d x → Inside u v y) → (Inside u v y → Inside c d x) → inside c d x ≡ inside u v y
same_inside c d x u v y to from = same_from_decides (inside c d x) (inside u v y) (is_inside c d x, inside_is c d x) (λ h. from (is_inside u v y h), λ i. inside_is u v y (to i))

pub came_inside : (from : ℕ → ℕ) (c d u v : ℕ) → ((x : ℕ) → inside c d x ≡ inside u v (from x)) → (x : ℕ) → Inside c d x → Inside u v (from x)
came_inside from c d u v same x i = is_inside u v (from x) (sym (same x) ∙ inside_is c d x i)

pub came_outside : (from : ℕ → ℕ) (c d u v : ℕ) → ((x : ℕ) → inside c d x ≡ inside u v (from x)) → (x : ℕ) → Outside c d x → Outside u v (from x)
came_outside from c d u v same x o = is_outside u v (from x) (sym (same x) ∙ outside_is c d x o)

-- runs nest where neither sticks out of the other at one end
pub nests : (a b c d : ℕ) → (a < c → c ≤ b → b < d → ⊥) → (c < a → a ≤ d → d < b → ⊥) → Nested a b c d
nests a b c d f g = go (cases_lt b c) (cases_lt d a) (cases_lt a c) (cases_lt c a) (cases_lt b d) (cases_lt d b)
  where
    go : (b < c) ⊎ (c ≤ b) → (d < a) ⊎ (a ≤ d) → (a < c) ⊎ (c ≤ a) → (c < a) ⊎ (a ≤ c) → (b < d) ⊎ (d ≤ b) → (d < b) ⊎ (b ≤ d) → Nested a b c d
    go (inl h) _ _ _ _ _ = inl (inl h)
    go (inr h) (inl i) _ _ _ _ = inl (inr i)
    go (inr h) (inr i) (inl j) _ (inl l) _ = absurd (f j h l)
    go (inr h) (inr i) (inl j) _ (inr l) _ = inr (inl (omega arith, l))
    go (inr h) (inr i) (inr j) (inl k) _ (inl l) = absurd (g k i l)
    go (inr h) (inr i) (inr j) (inl k) _ (inr l) = inr (inr (j, l))
    go (inr h) (inr i) (inr j) (inr k) (inl l) _ = inr (inr (j, omega arith))
    go (inr h) (inr i) (inr j) (inr k) (inr l) _ = inr (inl (k, l))

-- a position outside a block is tied to all its positions alike
pub block_alike : (s : Outline) → Rules s → (c d i x y : ℕ) → s.block c d ≡ true → Outside c d i → Inside c d x → Inside c d y → TiedAlike s i x y
block_alike s rules c d i x y k o h g = (rules.before c d i x y k o h g, rules.behind c d i x y k o h g)

-- and to all positions that come from a block
pub came_alike : (s : Outline) → Rules s → (from : ℕ → ℕ) (c d u v i x y : ℕ) → s.block u v ≡ true → ((z : ℕ) → inside c d z ≡ inside u v (from z)) → Outside c d i → Inside c d x → Inside c d y → TiedAlike s (from i) (from x) (from y)
came_alike s rules from c d u v i x y k same o h g = block_alike s rules u v (from i) (from x) (from y) k (came_outside from c d u v same i o) (came_inside from c d u v same x h) (came_inside from c d u v same y g)
