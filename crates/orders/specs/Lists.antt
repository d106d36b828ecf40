-- What a list of numbers, or of pairs, has.
use Rattle.std.specs.Prelude.{ℕ, Bool, false, ◌&&◌, ◌||◌, List, [], ◌∷◌, ◌==◌}

-- whether n is one of the numbers
abbrev pub listed : List ℕ → ℕ → Bool
listed [] n = false
listed (m ∷ ms) n = n == m || listed ms n

-- whether a and b are one of the pairs
abbrev pub paired : List (ℕ × ℕ) → ℕ → ℕ → Bool
paired [] a b = false
paired (p ∷ ps) a b = (a == p.0 && b == p.1) || paired ps a b
