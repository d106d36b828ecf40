use Rattle.sets.proofs.Kept.{wordwise-and, member_merged, sound_merged}
use Rattle.sets.proofs.bits.BitSet.intersection.Goals as goal

pub invariant_of-result : goal.invariant_of-result
invariant_of-result g c =
    let s = sound_merged wordwise-and c.args.self.now c.args.other.now c.zip_words.result c.zip_words.ensures.size c.zip_words.ensures.words in
    record { size = s.0; fits = s.1; usable = s.2 }

pub returns : goal.returns
returns g c = member_merged wordwise-and c.args.self.now c.args.other.now c.zip_words.result c.zip_words.ensures.size c.zip_words.ensures.words
