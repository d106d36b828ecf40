use Rattle.std.proofs.Common.{ℕ, ◌∙◌, map, rules, arith, Bor}
use Rattle.std.proofs.lemmas.List.{get_or_default, map-id, take_all}
use Rattle.std.proofs.lemmas.Iterator.{YieldsList, YieldsList-from_map, YieldsList-from_slice}
use Rattle.std.proofs.lemmas.Iterator.Adapters.{serves_from_places}
use Rattle.std.proofs.lemmas.Iterator.Consumers.{YieldsList-at}
use Rattle.std.proofs.iter.Yields.{fronts}
use Rattle.sheet.proofs.Laid.{known_small}
use Rattle.sheet.proofs.sheet.laying.known_steps.Goals as goal

pub collect-requires : goal.collect-requires
collect-requires c =
    let plan = c.args.plan.now in
    let road : YieldsList fronts (λ (y : Bor ℕ). y.now) c.map.result.iter plan = YieldsList-from_slice plan (cc) in
    (omega arith, ((tt, serves_from_places road (λ x q k. search rules) (λ x k l e. omega (arith, e, known_small c.args.task.now plan c.in_ok-check_actions.ensures k, get_or_default plan k x.now 0 l))), search rules))

pub returns : goal.returns
returns c =
    let plan = c.args.plan.now in
    (c.collect.ensures (map (λ n. n) plan) (YieldsList-from_map _ (λ n. n) (YieldsList-at c.map.ensures.source (YieldsList-from_slice plan (cc))) c.map.ensures.closure (λ x r q k. search rules)).runs ∙ rw map-id (take_all 128 plan c.requires), c.in_ok-check_actions.ensures)
