-- The members of a set that is kept as words of 64 bits.
use Rattle.std.specs.Prelude.{ℕ, zero, suc, ◌+◌, ◌/◌, ◌%◌, ◌^◌, Bool, cond, List, ◌==◌, slice_index}

-- whether the bit of weight 2 ^ k is set in n
abbrev pub bit : ℕ → ℕ → Bool
bit n k = n / 2 ^ k % 2 == 1

-- whether i is in the set: bit i % 64 of word i / 64, and none past the words
abbrev pub member : List ℕ → ℕ → Bool
member ws i = bit (slice_index ws (i / 64)) (i % 64)

-- how many of the numbers below n have p
abbrev pub tally : (ℕ → Bool) → ℕ → ℕ
tally p zero = 0
tally p (suc n) = tally p n + cond (p n) 1 0
