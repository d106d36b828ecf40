use Rattle.std.proofs.lemmas.Iterator.{YieldsList-from_slice}
use Rattle.std.proofs.lemmas.Iterator.Consumers.{YieldsList-from_chain, YieldsList-from_copied, YieldsList-at}
use Rattle.edits.proofs.SwapLists.{laid_turned}
use Rattle.edits.proofs.swapping.Runs.moved_steps.Goals as goal
use Rattle.sets.proofs.Held.{contents_fit}
use Rattle.sets.specs.Contents.{contents}
use Rattle.sheet.specs.Sheets.{actions}

pub returns : goal.returns
returns c =
    let xs = c.actions-steps.result.now in
    let runs = c.args.self.now in
    laid_turned (actions c.args.self.now.sheet.now) runs.first runs.second runs.last runs.ahead runs.behind runs.positions (contents_fit c.args.self.now.sheet.now.steps) xs c.actions-steps.ensures (contents c.collect.result) (c.collect.ensures _
    (YieldsList-from_copied (YieldsList-at c.copied.ensures.source (YieldsList-from_chain
    (YieldsList-at c.chain-2.ensures.first (YieldsList-from_chain
    (YieldsList-at c.chain.ensures.first (YieldsList-from_slice _ c.iter-2.ensures.rest))
    (YieldsList-at c.chain.ensures.second (YieldsList-from_chain (YieldsList-at c.chain-turned.ensures.first (YieldsList-from_slice _ c.iter.ensures.rest)) (YieldsList-from_slice _ c.chain-turned.ensures.second.0) c.chain-turned.ensures.first_done c.chain-turned.ensures.second_done))
    c.chain.ensures.first_done c.chain.ensures.second_done))
    (YieldsList-from_slice _ c.chain-2.ensures.second.0) c.chain-2.ensures.first_done c.chain-2.ensures.second_done))).runs)
