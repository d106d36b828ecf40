-- A sheet as its order sees it: its positions, their ties and its blocks.
use Rattle.std.specs.Prelude.{◌≡◌, ℕ, ◌<◌, ◌≤◌, Bool, true, ◌⊎◌}

-- `tied i j`: i is tied before j; `block a b`: the positions a to b are a block
pub record Outline : Type 0 where
  pub size : ℕ
  pub tied : ℕ → ℕ → Bool
  pub block : ℕ → ℕ → Bool

-- x lies in the run of positions a to b
abbrev pub Inside : ℕ → ℕ → ℕ → Type 0
Inside a b x = (a ≤ x) × (x ≤ b)

-- x lies ahead of the run a to b or behind it
abbrev pub Outside : ℕ → ℕ → ℕ → Type 0
Outside a b x = (x < a) ⊎ (b < x)

-- no position is in both runs
abbrev pub Apart : ℕ → ℕ → ℕ → ℕ → Type 0
Apart a b c d = (b < c) ⊎ (d < a)

-- the run c to d lies inside the run a to b
abbrev pub Within : ℕ → ℕ → ℕ → ℕ → Type 0
Within a b c d = (a ≤ c) × (d ≤ b)

-- what every sheet keeps
pub record Rules (s : Outline) : Type 0 where
  -- a position is tied before later ones only
  pub forward : (i j : ℕ) → s.tied i j ≡ true → (i < j) × (j < s.size)
  -- ties are transitive
  pub chained : (i j k : ℕ) → s.tied i j ≡ true → s.tied j k ≡ true → s.tied i k ≡ true
  -- a block has two or more positions
  pub proper : (a b : ℕ) → s.block a b ≡ true → (a < b) × (b < s.size)
  -- two blocks are apart, or one lies inside the other
  pub nested : (a b c d : ℕ) → s.block a b ≡ true → s.block c d ≡ true → Apart a b c d ⊎ (Within a b c d ⊎ Within c d a b)
  -- a position outside a block is tied before all its positions or none
  pub before : (a b i x y : ℕ) → s.block a b ≡ true → Outside a b i → Inside a b x → Inside a b y → s.tied i x ≡ s.tied i y
  -- and behind all or none
  pub behind : (a b i x y : ℕ) → s.block a b ≡ true → Outside a b i → Inside a b x → Inside a b y → s.tied x i ≡ s.tied y i
