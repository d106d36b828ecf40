-- What is proved of the edits.
use Rattle.std.specs.Prelude.{◌≡◌, ℕ, suc, ◌+◌, ◌-◌, ◌<◌, ◌≤◌, true, false, ◌⊎◌, List, map}
use Rattle.orders.specs.Check.{inside, together}
use Rattle.orders.specs.Edits.{CanGroup, CanLoosen, IsMember, Neighbours, carried, comes, goes, grouped, is_new, loosened, replaced, stood, swapped, ungrouped}
use Rattle.orders.specs.Facts.{Effects, Good}
use Rattle.orders.specs.Running.{RunningOrder}
use Rattle.orders.specs.Sheets.{Inside, Outline, Rules, Within}

-- group keeps the rules
abbrev pub GroupKeepsRules : Type 0
GroupKeepsRules = (s : Outline) → Rules s → (a b : ℕ) → CanGroup s a b → Rules (grouped s a b)

-- group adds as few ties as it can: every sheet that keeps the rules, has the old ties and has a to b as a block has all ties of the grouped sheet
abbrev pub GroupAddsFewest : Type 0
GroupAddsFewest = (s t : Outline) → Rules t → (a b : ℕ) → t.block a b ≡ true → ((x y : ℕ) → s.tied x y ≡ true → t.tied x y ≡ true) → (x y : ℕ) → (grouped s a b).tied x y ≡ true → t.tied x y ≡ true

-- the running orders of t are among those of s
abbrev pub OrdersAmong : Outline → Outline → Type 0
OrdersAmong s t = (order : List ℕ) → RunningOrder t order → RunningOrder s order

-- the running orders of a grouped sheet are among the old ones
abbrev pub GroupOrdersAreOld : Type 0
GroupOrdersAreOld = (s : Outline) (a b : ℕ) → OrdersAmong s (grouped s a b)

-- a good sheet stays good under group
abbrev pub GroupKeepsGood : Type 0
GroupKeepsGood = (s : Outline) (a b : ℕ) (e : Effects) → Good s e → Good (grouped s a b) e

-- ungroup keeps the rules
abbrev pub UngroupKeepsRules : Type 0
UngroupKeepsRules = (s : Outline) → Rules s → (a b : ℕ) → Rules (ungrouped s a b)

-- the positions of two parts are tied as any two of them are: all or none
abbrev pub PartsAreTiedAlike : Type 0
PartsAreTiedAlike = (s : Outline) → Rules s → (i j x y : ℕ) → together s x i j ≡ true → together s y j i ≡ true → s.tied x y ≡ s.tied i j

-- loosen keeps the rules
abbrev pub LoosenKeepsRules : Type 0
LoosenKeepsRules = (s : Outline) → Rules s → (i j : ℕ) → CanLoosen s i j → Rules (loosened s i j)

-- the parts of two neighbours are runs of positions that meet
abbrev pub NeighboursMeet : Type 0
NeighboursMeet = (s : Outline) → Rules s → (k : ℕ) → 0 < k → k < s.size → (a b : ℕ) × Neighbours s a k b

-- every block of t has just the positions that come from a block of s
abbrev pub BlocksCome : Outline → Outline → (ℕ → ℕ) → Type 0
BlocksCome s t from = (c d : ℕ) → t.block c d ≡ true → (u v : ℕ) × (s.block u v ≡ true) × ((x : ℕ) → inside c d x ≡ inside u v (from x))

-- the blocks of t are those of s, each with its positions
abbrev pub BlocksCarried : Outline → Outline → (ℕ → ℕ) → (ℕ → ℕ) → Type 0
BlocksCarried s t to from = BlocksCome s t from × BlocksCome t s to

-- the blocks of a swapped sheet are the old ones with their positions
abbrev pub SwapCarriesBlocks : Type 0
SwapCarriesBlocks = (s : Outline) → Rules s → (a k b : ℕ) → Neighbours s a k b → BlocksCarried s (swapped s a k b) (goes a k b) (comes a k b)

-- swap keeps the rules
abbrev pub SwapKeepsRules : Type 0
SwapKeepsRules = (s : Outline) → Rules s → (a k b : ℕ) → Neighbours s a k b → s.tied (k - 1) k ≡ false → Rules (swapped s a k b)

-- `goes` and `comes` undo each other
abbrev pub SwapUndone : Type 0
SwapUndone = (a k b : ℕ) → a ≤ k → k ≤ suc b → (x : ℕ) → (comes a k b (goes a k b x) ≡ x) × (goes a k b (comes a k b x) ≡ x)

-- the running orders of t are those of s with every position renamed
abbrev pub OrdersRenamed : Outline → Outline → (ℕ → ℕ) → (ℕ → ℕ) → Type 0
OrdersRenamed s t to from = (order : List ℕ) →
    (RunningOrder s order → RunningOrder t (map to order)) × (RunningOrder t order → RunningOrder s (map from order))

-- the running orders of a swapped sheet are the old ones, renamed
abbrev pub SwapRenamesOrders : Type 0
SwapRenamesOrders = (s : Outline) → Rules s → (a k b : ℕ) → Neighbours s a k b → OrdersRenamed s (swapped s a k b) (goes a k b) (comes a k b)

-- a good sheet stays good under swap, where the steps go with their positions
abbrev pub SwapKeepsGood : Type 0
SwapKeepsGood = (s : Outline) → Rules s → (a k b : ℕ) → Neighbours s a k b → (e : Effects) → Good s e → Good (swapped s a k b) (carried (comes a k b) e)

-- replace keeps the rules
abbrev pub ReplaceKeepsRules : Type 0
ReplaceKeepsRules = (s : Outline) → Rules s → (a b m : ℕ) → IsMember s a b → 0 < m → Rules (replaced s a b m)

-- where m new steps of t stand for a to b of s: a new step is tied to the other positions as every position of a to b was
abbrev pub TiedAround : Outline → Outline → ℕ → ℕ → ℕ → Type 0
TiedAround s t a b m = (x y z : ℕ) → is_new a m x ≡ true → is_new a m y ≡ false → Inside a b z →
    (t.tied x y ≡ s.tied z (stood a b m y)) × (t.tied y x ≡ s.tied (stood a b m y) z)

-- after replace it is so
abbrev pub ReplaceKeepsTies : Type 0
ReplaceKeepsTies = (s : Outline) → Rules s → (a b m : ℕ) → IsMember s a b → TiedAround s (replaced s a b m) a b m

-- the blocks of t are the new steps and the blocks of s that did not lie inside a to b, with their positions
abbrev pub BlocksAround : Outline → Outline → ℕ → ℕ → ℕ → Type 0
BlocksAround s t a b m =
    ((c d : ℕ) → t.block c d ≡ true → ((c ≡ a) × (suc d ≡ a + m) × (2 ≤ m)) ⊎ ((u v : ℕ) × (s.block u v ≡ true) × (Within a b u v → ⊥) × ((x : ℕ) → inside c d x ≡ inside u v (stood a b m x)))) ×
    ((u v : ℕ) → s.block u v ≡ true → (Within a b u v → ⊥) → (c d : ℕ) × (t.block c d ≡ true) × ((x : ℕ) → inside c d x ≡ inside u v (stood a b m x))) ×
    ((d : ℕ) → suc d ≡ a + m → 2 ≤ m → t.block a d ≡ true)

-- after replace it is so
abbrev pub ReplaceKeepsBlocks : Type 0
ReplaceKeepsBlocks = (s : Outline) → Rules s → (a b m : ℕ) → IsMember s a b → 0 < m → BlocksAround s (replaced s a b m) a b m
