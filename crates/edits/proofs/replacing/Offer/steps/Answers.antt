use Rattle.std.proofs.Common.{ℕ, rules, arith, Bor}
use Rattle.std.proofs.lemmas.List.{get_or_default}
use Rattle.std.proofs.lemmas.Iterator.{YieldsList, YieldsList-from_slice, YieldsList-from_map}
use Rattle.std.proofs.lemmas.Iterator.Adapters.{serves_from_places}
use Rattle.std.proofs.lemmas.Iterator.Consumers.{YieldsList-from_chain, YieldsList-from_copied, YieldsList-at}
use Rattle.std.proofs.iter.Yields.{fronts}
use Rattle.edits.proofs.PutIn.{laid_in}
use Rattle.edits.proofs.replacing.Offer.steps.Goals as goal
use Rattle.sheet.specs.Sheets.{actions}

pub collect-requires : goal.collect-requires
collect-requires c =
    let road : YieldsList fronts (λ (y : Bor ℕ). y.now) c.chain-2.result.a.b.iter c.args.self.now.list.now = YieldsList-from_slice c.args.self.now.list.now (cc) in
    (omega arith, (((λ _. ((λ _. tt), (λ _. (tt, serves_from_places road (λ x q k. search rules) (λ x k l e. omega (arith, e, c.args.self.now.small k, get_or_default c.args.self.now.list.now k x.now 0 l)))))), (λ _. tt)), search rules))

pub returns : goal.returns
returns c = laid_in (actions c.args.self.now.sheet.now) _ _ _ c.args.self.now.run.0 c.args.self.now.run.1 c.args.self.now.room _ c.actions-steps.ensures _
    (c.collect.ensures _
    (YieldsList-from_chain
    (YieldsList-at c.chain-2.ensures.first (YieldsList-from_chain
    (YieldsList-at c.chain.ensures.first (YieldsList-from_copied (YieldsList-at c.copied-front.ensures.source (YieldsList-from_slice _ c.iter.ensures.rest))))
    (YieldsList-at c.chain.ensures.second (YieldsList-from_map _ (λ n. n) (YieldsList-at c.map-list.ensures.source (YieldsList-from_slice _ c.iter-2.ensures.rest)) c.map-list.ensures.closure (λ x r q k. search rules)))
    c.chain.ensures.first_done c.chain.ensures.second_done))
    (YieldsList-at c.chain-2.ensures.second (YieldsList-from_copied (YieldsList-at c.copied-rest.ensures.source (YieldsList-from_slice _ c.iter-3.ensures.rest))))
    c.chain-2.ensures.first_done c.chain-2.ensures.second_done).runs)
