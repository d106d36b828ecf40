use Rattle.std.proofs.Common.{arith}
use Rattle.sets.proofs.Kept.{member_ones, sound_ones}
use Rattle.sets.proofs.bits.BitSet.below.Goals as goal

pub invariant_of-result : goal.invariant_of-result
invariant_of-result g c =
    let s = sound_ones c.loop-i.word-items c.loop-i.invariant.0 c.args.k (λ q l. c.loop-i.invariant.1 q (omega arith)) c.ranges.k.fits in
    record { size = s.0; fits = s.1; usable = s.2 }

pub returns : goal.returns
returns g c = member_ones c.loop-i.word-items c.loop-i.invariant.0 c.args.k (λ q l. c.loop-i.invariant.1 q (omega arith))
