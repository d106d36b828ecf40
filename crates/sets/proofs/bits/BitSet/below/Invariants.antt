use Rattle.std.proofs.Common.{◌≡◌, ℕ, ◌-◌, ◌*◌, ◌^◌, ◌<◌, min, length, get_or}
use Rattle.sets.proofs.bits.BitSet.below.Given as goal

abbrev pub invariant-loop-i : goal.invariant-loop-i
invariant-loop-i g l = (length l.word-items ≡ g.row.W) × ((q : ℕ) → q < l.i → get_or l.word-items q 0 ≡ 2 ^ min (l.k - 64 * q) 64 - 1)
