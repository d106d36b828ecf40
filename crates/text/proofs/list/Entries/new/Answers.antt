use Rattle.std.proofs.Common.{arith}
use Rattle.std.proofs.lemmas.Slice.Eq.{text_from_reads}
use Rattle.text.proofs.Lists.{none_left}
use Rattle.text.proofs.list.Entries.new.Goals as goal

pub returns-in-NO_ENTRIES : goal.returns-in-NO_ENTRIES
returns-in-NO_ENTRIES c = none_left c.args.text.now (text_from_reads _ _ (omega arith) (omega arith))
