-- What a set of numbers is.
use Rattle.std.specs.Prelude.{ℕ, Bool}
use Rattle.sets.specs.Member.{member}
use Rattle.sets.specs.declared.bits.BitSet.{BitSet}

-- whether i is a member; it stands apart from `member`, which the struct's own ghost fields cite
abbrev pub has : {W : ℕ} → BitSet W → ℕ → Bool
has set = member set.words
