use Rattle.std.proofs.Common.{◌≡◌, ℕ, ◌*◌, ◌<◌, true}
use Rattle.sets.specs.Member.{member}
use Rattle.sets.proofs.bits.BitSet.below_where.Given as goal

-- the members are the numbers so far that pass
abbrev pub invariant-loop-j : goal.invariant-loop-j
invariant-loop-j g l = ((i : ℕ) → i < l.j → i < 64 * g.row.W → goal.F-post g l.passes i (member l.set.words i)) × ((i : ℕ) → member l.set.words i ≡ true → i < l.j)
