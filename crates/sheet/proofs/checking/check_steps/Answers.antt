use Rattle.std.proofs.Common.{map, rules}
use Rattle.std.proofs.lemmas.List.{map-id}
use Rattle.std.proofs.lemmas.Iterator.{YieldsList-from_map, YieldsList-from_slice}
use Rattle.std.proofs.lemmas.Iterator.Consumers.{YieldsList-at, YieldsList-from_copied}
use Rattle.sheet.proofs.checking.check_steps.Goals as goal
use Rattle.sheet.specs.Sheets.{actions}
use Rattle.sheet.specs.Verdicts.{ChecksActions}

pub returns : goal.returns
returns c =
    let numbers = actions c.args.sheet.now in
    let checked : ChecksActions c.args.task.now (map (λ n. n) numbers) c.check_numbers.result = c.check_numbers.ensures (map (λ n. n) numbers)
    (YieldsList-from_map _ (λ n. n) (YieldsList-at c.map.ensures.source (YieldsList-from_copied (YieldsList-at c.copied.ensures.source (YieldsList-from_slice numbers (cc))))) c.map.ensures.closure (λ x r q k. search rules)).runs in
    rw map-id at checked
