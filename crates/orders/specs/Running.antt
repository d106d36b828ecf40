-- Running orders: lists of positions.
use Rattle.std.specs.Prelude.{◌≡◌, ℕ, suc, ◌<◌, true, cond, List, [], ◌∷◌, length, ◌==◌, slice_index}
use Rattle.std.specs.List.{range_with_len}
use Rattle.orders.specs.Sheets.{Inside, Outline, Outside}

-- the index at which x first stands in the list, the list's length where it does not
abbrev pub place : ℕ → List ℕ → ℕ
place x [] = 0
place x (y ∷ rest) = cond (x == y) 0 (suc (place x rest))

-- x stands in the list
abbrev pub Has : List ℕ → ℕ → Type 0
Has order x = place x order < length order

-- x comes ahead of y
abbrev pub Earlier : List ℕ → ℕ → ℕ → Type 0
Earlier order x y = place x order < place y order

-- an order of all positions that keeps every tie and lets nothing foreign come between the positions of a block
pub record RunningOrder (s : Outline) (order : List ℕ) : Type 0 where
  -- every entry is a position
  pub positions : (k : ℕ) → k < length order → slice_index order k < s.size
  -- every position is an entry
  pub complete : (x : ℕ) → x < s.size → Has order x
  -- no position is an entry twice
  pub once : (k : ℕ) → k < length order → place (slice_index order k) order ≡ k
  -- a tie is kept
  pub kept : (i j : ℕ) → s.tied i j ≡ true → Earlier order i j
  -- what is outside a block and ahead of one of its positions is ahead of all
  pub unbroken : (a b i x y : ℕ) → s.block a b ≡ true → Outside a b i → Inside a b x → Inside a b y → Earlier order i x → Earlier order i y

-- the home order: 0, 1, 2 and so on
abbrev pub home : Outline → List ℕ
home s = range_with_len 0 s.size
