use Rattle.std.proofs.Common.{◌≤◌, MatchBool, ⊎_elim, arith, rules}
use Rattle.std.proofs.lemmas.Bool.{cases_Bool, cases_lt}
use Rattle.driving.specs.Calls.{Open}
use Rattle.sets.proofs.Held.{contents_fit}
use Rattle.sets.specs.Member.{member}
use Rattle.sheet.specs.Sheets.{outline}
use Rattle.runs.specs.Views.{moment_of}
use Rattle.runs.proofs.run.Run.open_positions.Goals as goal

pub returns : goal.returns
returns c rig p =
    let sheet = c.args.self.now.sheet.now in
    let few : c.steps.result ≤ 128 = omega (arith, contents_fit sheet.steps, c.steps.ensures) in
    let O = Open (outline sheet) (moment_of c.args.self.now rig) p in
    ⊎_elim (λ l. let t = c.below_where.ensures.test p l (omega arith) in let told = t.1 in let said : MatchBool t.0 O (O → ⊥) = search rules in rw t.2 said)
    (λ l. ⊎_elim (λ e. let b = c.below_where.ensures.bound p e in absurd (omega arith)) (λ e. rw e (λ (o : O). absurd (omega (arith, o.position, c.steps.ensures)))) (cases_Bool (member c.below_where.result.words p)))
    (cases_lt p c.steps.result)
