use Rattle.orders.proofs.EditParts.{neighbours_meet}
use Rattle.orders.proofs.the_parts_of_neighbours_meet.Goals as goal

pub returns : goal.returns
returns c = neighbours_meet
