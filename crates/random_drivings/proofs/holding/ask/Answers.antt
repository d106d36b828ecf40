use Rattle.random_drivings.proofs.Slips.{bare, put_back_frees}
use Rattle.runs.specs.Views.{moment_of}
use Rattle.random_drivings.proofs.holding.ask.Goals as goal

pub returns-in-PutBack : goal.returns-in-PutBack
returns-in-PutBack g c =
    put_back_frees (moment_of c.args.run.now bare) c.args.slip.now.position c.put_back.result c.put_back.new.slip.position (moment_of c.put_back.new.self bare)
    (c.put_back.ensures.puts_back bare)
