use Rattle.std.proofs.Common.{length, rules, arith}
use Rattle.edits.proofs.Asked.{asked_outline, asked_rules}
use Rattle.edits.proofs.KeptPairs.{rows_told}
use Rattle.edits.proofs.PutIn.{put_in_below}
use Rattle.edits.proofs.replacing.Offer.asked.Goals as goal
use Rattle.orders.specs.Edits.{replaced}
use Rattle.sheet.specs.Sheets.{actions, outline}

pub invariant_of-result : goal.invariant_of-result
invariant_of-result c =
    let offer = c.args.self.now in
    let new = replaced (outline offer.sheet.now) offer.first offer.last (length offer.list.now) in
    let ties = rows_told _ c.rows_of.result.rows new.tied c.rows_of.ensures.pairs c.rows_of.ensures.room (λ x y b e. search rules) in
    let ends = rows_told _ c.rows_of-2.result.rows new.block c.rows_of-2.ensures.pairs c.rows_of-2.ensures.room (λ x y b e. search rules) in
    let small = put_in_below (actions offer.sheet.now) _ _ _ 128 (omega arith) offer.sheet.now.numbers offer.small in
    record {
      numbers = λ i. rw c.steps.ensures (small i);
      rules = asked_rules offer.sheet.now _ _ _ c.requires offer.run.0 offer.some offer.room c.steps.result c.steps.ensures _ _ ties ends;
    }

pub returns : goal.returns
returns c =
    let offer = c.args.self.now in
    let new = replaced (outline offer.sheet.now) offer.first offer.last (length offer.list.now) in
    let ties = rows_told _ c.rows_of.result.rows new.tied c.rows_of.ensures.pairs c.rows_of.ensures.room (λ x y b e. search rules) in
    let ends = rows_told _ c.rows_of-2.result.rows new.block c.rows_of-2.ensures.pairs c.rows_of-2.ensures.room (λ x y b e. search rules) in
    record { steps = c.steps.ensures; order = asked_outline offer.sheet.now _ _ _ c.requires offer.run.0 offer.some offer.room c.steps.result c.steps.ensures _ _ ties ends }
