use Rattle.orders.proofs.EditReplace.{replace_keeps_blocks}
use Rattle.orders.proofs.replace_keeps_the_blocks_around.Goals as goal

pub returns : goal.returns
returns c = replace_keeps_blocks
