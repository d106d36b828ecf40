-- What lists of actions cost at the most.
use Rattle.std.proofs.Common.{◌≡◌, ℕ, ◌*◌, ◌%◌, ◌^◌, ◌<◌, ◌≤◌, List, [], ◌∷◌, length, sum_by, arith}
use Rattle.std.proofs.lemmas.List.Sums.{sum_by-cons}
use Rattle.task.specs.Prices.{Lawful}

module _ {highest : ℕ} {price : ℕ → ℕ} (law : Lawful highest price) where
  sum_le : (xs : List ℕ) → sum_by price xs ≤ length xs * 1000000
  sum_le [] = omega arith
  sum_le (x ∷ xs) = omega (arith, sum_by-cons price x xs, sum_le xs, law.bounded x, law.fits)

  -- as many as a plan can have are summed up exactly
  pub whole_sum : (sum : ℕ) (xs : List ℕ) → sum ≡ sum_by price xs % 2 ^ 32 → length xs ≤ 128 → sum ≡ sum_by price xs
  whole_sum sum xs e few = omega (arith, e, sum_le xs, few)
