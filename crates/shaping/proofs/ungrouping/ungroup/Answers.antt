use Rattle.std.proofs.Common.{◌≡◌, sym, inr, rules}
use Rattle.shaping.proofs.CheckLaws.{adopted}
use Rattle.shaping.proofs.ungrouping.ungroup.Goals as goal
use Rattle.orders.specs.Edits.{ungrouped}
use Rattle.sheet.specs.Sheets.{actions, outline}

pub returns : goal.returns
returns c =
    let run = c.in_ok-run.run' in
    let asked = c.ungrouped_sheet-asked in
    let block = sym c.if-not-is_block.ensures in
    let same : run.sheet.now ≡ c.args.sheet.now = search rules in
    let first : run.first ≡ c.args.a = search rules in
    let last : run.last ≡ c.args.b = search rules in
    let steps : actions asked.result ≡ actions c.args.sheet.now = rw (← same) asked.ensures.steps in
    let order : outline asked.result ≡ ungrouped (outline c.args.sheet.now) c.args.a c.args.b = rw (← same, ← first, ← last) asked.ensures.order in
    adopted c.args.task.now c.args.sheet.now asked.result _ steps order c.adopt.result _ _ _ c.adopt.ensures
    (λ k. (block, k)) (λ fault r. inr (inr (block, r)))
