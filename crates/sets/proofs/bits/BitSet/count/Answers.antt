use Rattle.std.proofs.Common.{arith}
use Rattle.sets.proofs.Kept.{tally_word}
use Rattle.sets.proofs.bits.BitSet.count.Goals as goal

pub loop-word-preserved : goal.loop-word-preserved
loop-word-preserved g c = omega (arith, tally_word c.args.self.now c.loop-word.word-index)
