use Rattle.std.proofs.Common.{Ok, rules}
use Rattle.book.proofs.RoundTrip.{round_trip}
use Rattle.book.proofs.load.load.Goals as goal

pub returns-in_err-gather-clause-round_trip : goal.returns-in_err-gather-clause-round_trip
returns-in_err-gather-clause-round_trip c = round_trip c.args.book.now c.from_residual.result c.store.new.task c.store.new.plan (search rules)

pub returns-clause-round_trip : goal.returns-clause-round_trip
returns-clause-round_trip c = round_trip c.args.book.now (Ok tt) c.store-2.new.task c.store-2.new.plan (search rules)
