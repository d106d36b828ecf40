use Rattle.std.proofs.Common.{◌≡◌, ℕ, ◌<◌, ◌≤◌, length, slice_index}
use Rattle.sets.proofs.bits.zip_words.Given as goal

-- the words so far are joined, and the others are those of a
abbrev pub invariant-loop-i : goal.invariant-loop-i
invariant-loop-i g l =
    (length l.word-items ≡ g.row.W) × ((k : ℕ) → k < l.i → goal.F-post g l.join (slice_index l.a k) (slice_index l.b k) (slice_index l.word-items k)) × ((k : ℕ) → l.i ≤ k → slice_index l.word-items k ≡ slice_index l.a k)
