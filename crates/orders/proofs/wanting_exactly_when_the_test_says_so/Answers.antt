use Rattle.orders.proofs.Wanting.{test_decides_wanting}
use Rattle.orders.proofs.wanting_exactly_when_the_test_says_so.Goals as goal

pub returns : goal.returns
returns c = test_decides_wanting
