use Rattle.orders.proofs.EditLoosen.{parts_are_tied_alike}
use Rattle.orders.proofs.two_parts_are_tied_alike.Goals as goal

pub returns : goal.returns
returns c = parts_are_tied_alike
