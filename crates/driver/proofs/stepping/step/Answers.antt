use Rattle.std.proofs.Common.{Ok, Result, subst}
use Rattle.std.proofs.lemmas.Result.{err_from_is_err_and}
use Rattle.driver.proofs.Slips.{done_ends, done_goes_on, take_ends}
use Rattle.driving.specs.Calls.{Does, Work}
use Rattle.runs.specs.Faults.{told}
use Rattle.runs.specs.Views.{moment_of, position, work_of}
use Rattle.runs.specs.declared.fault.RunFault.{RunFault}
use Rattle.driver.proofs.stepping.step.Goals as goal

pub returns-in_err-answer-clause-steps : goal.returns-in_err-answer-clause-steps
returns-in_err-answer-clause-steps g c =
    let rig = g.R.Rig.meaning c.args.rig.now in
    let t = rw c.in_err-answer.was at c.take-answer.ensures.takes rig in
    let p = err_from_is_err_and c.from_residual.result c.from_residual.ensures.1 in
    rw (p.1, p.2)
    (take_ends (work_of c.args.run.now) (moment_of c.args.run.now rig) c.args.p c.in_err-answer.field-0.0
    (position c.take-answer.result.1) (moment_of c.take-answer.new.self rig) t)

pub drop-slip-requires-in-Err : goal.drop-slip-requires-in-Err
drop-slip-requires-in-Err g c =
    let rig = g.R.Rig.meaning c.args.rig.now in
    let rig' = g.R.Rig.meaning c.done.new.rig in
    let t = rw c.in_ok-answer.was at c.take-answer.ensures.takes rig in
    let does = rw c.take-answer.ensures.over at c.in-Err.ensures.does in
    (done_ends (work_of c.args.run.now) (moment_of c.args.run.now rig) c.args.p
    (position c.take-answer.result.1) (moment_of c.take-answer.new.self rig) t
    c.in-Err.fault (position c.done.new.slip) (moment_of c.done.new.self rig') does
    c.put_back.result (position c.put_back.new.slip) (moment_of c.put_back.new.self rig') (c.put_back.ensures.puts_back rig')).0

pub returns-in-Err-clause-steps : goal.returns-in-Err-clause-steps
returns-in-Err-clause-steps g c =
    let rig = g.R.Rig.meaning c.args.rig.now in
    let rig' = g.R.Rig.meaning c.done.new.rig in
    let t = rw c.in_ok-answer.was at c.take-answer.ensures.takes rig in
    let does = rw c.take-answer.ensures.over at c.in-Err.ensures.does in
    (done_ends (work_of c.args.run.now) (moment_of c.args.run.now rig) c.args.p
    (position c.take-answer.result.1) (moment_of c.take-answer.new.self rig) t
    c.in-Err.fault (position c.done.new.slip) (moment_of c.done.new.self rig') does
    c.put_back.result (position c.put_back.new.slip) (moment_of c.put_back.new.self rig') (c.put_back.ensures.puts_back rig')).1

pub returns-clause-steps : goal.returns-clause-steps
returns-clause-steps g c =
    let rig = g.R.Rig.meaning c.args.rig.now in
    let rig' = g.R.Rig.meaning c.done.new.rig in
    let t = rw c.in_ok-answer.was at c.take-answer.ensures.takes rig in
    let D : Work → Result (Unit {0}) RunFault → Type 0 =
    λ v r. Does v (moment_of c.take-answer.new.self rig) (position c.take-answer.result.1) (told r) (position c.done.new.slip) (moment_of c.done.new.self rig') in
    let does = subst (λ v. D v (Ok tt)) c.take-answer.ensures.over (subst (D (work_of c.take-answer.new.self)) c.in_default.is c.done.ensures.does) in
    (done_goes_on (work_of c.args.run.now) (moment_of c.args.run.now rig) c.args.p
    (position c.take-answer.result.1) (moment_of c.take-answer.new.self rig) t
    (position c.done.new.slip) (moment_of c.done.new.self rig') does).1
