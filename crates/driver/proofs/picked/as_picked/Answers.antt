use Rattle.std.proofs.Common.{of_calls, rules}
use Rattle.std.proofs.lemmas.Result.{err_from_is_err_and}
use Rattle.std.specs.Fn.{CalledAt}
use Rattle.driver.proofs.Steps.{begins_over, done_over, picks_over, refused_over}
use Rattle.driver.proofs.Undone.{fewer_undone}
use Rattle.driver.proofs.picked.as_picked.Goals as goal
use Rattle.driver.specs.Ends.Follows.{went}
use Rattle.runs.specs.Views.{moment_of, work, work_of}

pub loop-run-init : goal.loop-run-init
loop-run-init g c =
    let rig = g.R.Rig.meaning c.args.rig.now in
    record {
      callable = c.requires;
      over = c.open-run.ensures.over;
      keeps = g.met.R.Rig.keeping.still c.args.rig.now;
      follows = begins_over (CalledAt g.C.FnMut) (work c.args.task.now c.args.sheet.now) rig c.args.choose (moment_of c.open-run.result rig) (c.open-run.ensures.opens rig);
    }

pub loop-run-smaller : goal.loop-run-smaller
loop-run-smaller g c =
    let w = work c.args.task.now c.args.sheet.now in
    let before = moment_of c.loop-run.run (g.R.Rig.meaning c.loop-run.rig) in
    let after = moment_of c.step.new.run (g.R.Rig.meaning c.step.new.rig) in
    fewer_undone w before after c.choose-p.result (done_over (work_of c.loop-run.run) w c.loop-run.invariant.over before after c.choose-p.result c.in_ok-step.ensures.steps)

pub loop-run-preserved : goal.loop-run-preserved
loop-run-preserved g c =
    let w = work c.args.task.now c.args.sheet.now in
    let over = c.loop-run.invariant.over in
    let rig = g.R.Rig.meaning c.loop-run.rig in
    let before = moment_of c.loop-run.run rig in
    let after = moment_of c.step.new.run (g.R.Rig.meaning c.step.new.rig) in
    let picked : CalledAt g.C.FnMut c.loop-run.choose c.open_positions.result c.choose-p.result c.choose-p.new.self = search rules in
    let asks = picks_over (work_of c.loop-run.run) w over before after c.choose-p.result (CalledAt g.C.FnMut) c.loop-run.choose c.choose-p.new.self c.open_positions.result c.loop-run-test.ensures (c.open_positions.ensures rig) picked in
    let done = done_over (work_of c.loop-run.run) w over before after c.choose-p.result c.in_ok-step.ensures.steps in
    record {
      callable = search of_calls;
      over = search rules;
      keeps = g.met.R.Rig.keeping.on c.args.rig.now c.loop-run.rig c.step.new.rig c.loop-run.invariant.keeps c.step.ensures.keeps;
      follows = went c.choose-p.result c.choose-p.new.self after c.loop-run.invariant.follows asks done;
    }

pub returns-in_err-step-clause-ends : goal.returns-in_err-step-clause-ends
returns-in_err-step-clause-ends g c =
    let w = work c.args.task.now c.args.sheet.now in
    let over = c.loop-run.invariant.over in
    let rig = g.R.Rig.meaning c.loop-run.rig in
    let before = moment_of c.loop-run.run rig in
    let after = moment_of c.step.new.run (g.R.Rig.meaning c.step.new.rig) in
    let picked : CalledAt g.C.FnMut c.loop-run.choose c.open_positions.result c.choose-p.result c.choose-p.new.self = search rules in
    let asks = picks_over (work_of c.loop-run.run) w over before after c.choose-p.result (CalledAt g.C.FnMut) c.loop-run.choose c.choose-p.new.self c.open_positions.result c.loop-run-test.ensures (c.open_positions.ensures rig) picked in
    let stops = refused_over (work_of c.loop-run.run) w over before after c.choose-p.result c.in_err-step.field-0.0 c.in_err-step.ensures.steps in
    let p = err_from_is_err_and c.from_residual.result c.from_residual.ensures.1 in
    (c.loop-run.choose, (before, c.loop-run.invariant.follows, stops.1, rw (p.1, p.2) (c.choose-p.result, (c.choose-p.new.self, asks, stops.0))))
