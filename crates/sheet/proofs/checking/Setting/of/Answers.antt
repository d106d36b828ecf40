use Rattle.std.proofs.Common.{rules, arith}
use Rattle.std.proofs.lemmas.Bool.{and_left}
use Rattle.orders.specs.Check.{takes}
use Rattle.sets.proofs.Held.{contents_fit}
use Rattle.sheet.proofs.Effects.{nothing_past}
use Rattle.sheet.proofs.RowLaws.{filled_is}
use Rattle.sheet.proofs.checking.Setting.of.Goals as goal
use Rattle.sheet.specs.Sheets.{actions}
use Rattle.sheet.specs.Verdicts.{effects}

pub invariant_of-result : goal.invariant_of-result
invariant_of-result c =
    let task = c.args.effects.now.task.now in
    let sheet = c.args.effects.now.sheet.now in
    let e = effects task sheet in
    let numbers = actions sheet in
    let few = contents_fit sheet.steps in
    let here = c.steps-steps.ensures in
    let adds = c.filled.ensures in
    let takes_down = c.filled-2.ensures in
    record {
      added = filled_is _ e.adds c.filled.result c.steps-steps.result _ (omega (arith, adds.size)) adds.entries (λ i l m d. adds.rest i l (omega (arith, adds.size, m)) d) c.empty.ensures
          (λ p set l made f. search rules) (λ p f l. nothing_past (λ a. a.adds) task numbers p (omega arith) f);
      taken = filled_is _ (takes e) c.filled-2.result c.steps-steps.result _ (omega (arith, takes_down.size)) takes_down.entries (λ i l m d. takes_down.rest i l (omega (arith, takes_down.size, m)) d) c.empty-2.ensures
          (λ p set l made f. search rules) (λ p f l. and_left _ _ (nothing_past (λ a. a.deletes) task numbers p (omega arith) f));
    }
