use Rattle.orders.proofs.DrivingOpen.{no_dead_end}
use Rattle.orders.proofs.no_driving_comes_to_a_dead_end.Goals as goal

pub returns : goal.returns
returns c = no_dead_end
