use Rattle.std.proofs.Common.{refl, arith}
use Rattle.sets.proofs.bits.BitSet.below_where.Goals as goal

pub returns-clause-test : goal.returns-clause-test
returns-clause-test g c j l m = (_, c.loop-j.invariant.0 j (omega (arith, c.loop-j-test.false)) m, refl)
