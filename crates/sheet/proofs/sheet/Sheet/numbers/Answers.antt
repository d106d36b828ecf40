use Rattle.std.proofs.Common.{◌∙◌, map, rules}
use Rattle.std.proofs.lemmas.List.{map-id, take_all}
use Rattle.std.proofs.lemmas.Iterator.{YieldsList-from_map, YieldsList-from_slice}
use Rattle.std.proofs.lemmas.Iterator.Consumers.{YieldsList-at, YieldsList-from_copied}
use Rattle.sets.proofs.Held.{contents_fit}
use Rattle.sheet.proofs.sheet.Sheet.numbers.Goals as goal
use Rattle.sheet.specs.Sheets.{actions}

pub returns : goal.returns
returns c =
    let numbers = actions c.args.self.now in
    c.collect.ensures (map (λ n. n) numbers)
    (YieldsList-from_map _ (λ n. n) (YieldsList-at c.map.ensures.source (YieldsList-from_copied (YieldsList-at c.copied.ensures.source (YieldsList-from_slice numbers (cc))))) c.map.ensures.closure (λ x r q k. search rules)).runs
    ∙ rw map-id (take_all 128 numbers (contents_fit c.args.self.now.steps))
