use Rattle.std.proofs.Common.{◌≡◌, ◌-◌, ◌*◌, ◌^◌, min}
use Rattle.sets.specs.Member.{member, tally}
use Rattle.sets.proofs.bits.BitSet.count.Given as goal

abbrev pub invariant-loop-word : goal.invariant-loop-word
invariant-loop-word g l = l.total ≡ min (tally (member l.self.words) (64 * l.word-index)) (2 ^ 64 - 1)
