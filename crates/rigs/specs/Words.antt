-- What a word rig means.
use Rattle.driving.specs.Meanings.{Meaning}
use Rattle.rigs.specs.declared.word.WordRig.{WordRig}
use Rattle.sets.specs.Sets.{has}

-- the facts that it keeps, and the steps that it has left
abbrev pub meaning_of : WordRig → Meaning
meaning_of rig = record { standing = has rig.facts; left = rig.left }
