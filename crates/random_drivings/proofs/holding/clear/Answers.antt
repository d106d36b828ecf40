use Rattle.random_drivings.proofs.Slips.{bare, put_back_clears}
use Rattle.runs.specs.Views.{moment_of}
use Rattle.random_drivings.proofs.holding.clear.Goals as goal

pub returns : goal.returns
returns c =
    put_back_clears (moment_of c.args.run.now bare) c.args.slip.now.position c.put_back.result c.put_back.new.slip.position (moment_of c.put_back.new.self bare)
    c.requires (c.put_back.ensures.puts_back bare)
