-- The words that a line of a book begins with.
use Rattle.std.specs.Prelude.{ℕ, List, codes}
use Rattle.records.specs.declared.word.Word.{Word}
use Rattle.records.specs.declared.word.Word.TheVariants.{Fact, Act, Start, Goal, Step, Swap, Group, Ungroup, Loosen, Replace}

-- the bytes of a word
abbrev pub spelled : Word → List ℕ
spelled Fact = codes "fact"
spelled Act = codes "act"
spelled Start = codes "start"
spelled Goal = codes "goal"
spelled Step = codes "step"
spelled Swap = codes "swap"
spelled Group = codes "group"
spelled Ungroup = codes "ungroup"
spelled Loosen = codes "loosen"
spelled Replace = codes "replace"
