use Rattle.random_drivings.proofs.Slips.{bare, take_gives}
use Rattle.runs.specs.Views.{moment_of, work_of}
use Rattle.random_drivings.proofs.holding.take.Goals as goal

pub returns : goal.returns
returns c =
    take_gives (work_of c.args.run.now) (moment_of c.args.run.now bare) c.args.p c.take.result.0 c.take.result.1.position (moment_of c.take.new.self bare)
    (c.take.ensures.takes bare)
