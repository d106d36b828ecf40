use Rattle.std.proofs.Common.{refl, rules, sym, subst, arith}
use Rattle.driver.proofs.Steps.{done_over}
use Rattle.driver.proofs.laid.in_home_order.Goals as goal
use Rattle.driving.specs.Drivings.{AsLaid}
use Rattle.driving.specs.Drivings.AsLaid.{next, none}
use Rattle.runs.specs.Views.{moment_of, work, work_of}

pub loop-p-init : goal.loop-p-init
loop-p-init g c =
    let rig = g.R.Rig.meaning c.args.rig.now in
    record {
      over = c.open-run.ensures.over;
      keeps = g.met.R.Rig.keeping.still c.args.rig.now;
      laid = subst (λ m. AsLaid (work c.args.task.now c.args.sheet.now) rig 0 m) (sym (c.open-run.ensures.opens rig)) none;
    }

pub loop-p-preserved : goal.loop-p-preserved
loop-p-preserved g c =
    let w = work c.args.task.now c.args.sheet.now in
    let before = moment_of c.loop-p.run (g.R.Rig.meaning c.loop-p.rig) in
    let after = moment_of c.step.new.run (g.R.Rig.meaning c.step.new.rig) in
    let done = done_over (work_of c.loop-p.run) w c.loop-p.invariant.over before after c.loop-p.p c.in_ok-step.ensures.steps in
    let less = c.loop-p-test.true in
    record {
      over = search rules;
      keeps = g.met.R.Rig.keeping.on c.args.rig.now c.loop-p.rig c.step.new.rig c.loop-p.invariant.keeps c.step.ensures.keeps;
      laid = search (rules, next after c.loop-p.invariant.laid (omega arith) done);
    }

pub returns-clause-as_laid : goal.returns-clause-as_laid
returns-clause-as_laid g c =
    (c.loop-p.p, (moment_of c.loop-p.run (g.R.Rig.meaning c.loop-p.rig), c.loop-p.invariant.laid, refl, omega arith))
