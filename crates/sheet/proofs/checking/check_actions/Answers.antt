use Rattle.std.proofs.lemmas.Iterator.{YieldsList-from_slice}
use Rattle.std.proofs.lemmas.Iterator.Consumers.{YieldsList-at, YieldsList-from_copied}
use Rattle.sheet.proofs.checking.check_actions.Goals as goal

pub returns : goal.returns
returns c = c.check_numbers.ensures _ (YieldsList-from_copied (YieldsList-at c.copied.ensures.source (YieldsList-from_slice c.args.numbers.now (cc)))).runs
