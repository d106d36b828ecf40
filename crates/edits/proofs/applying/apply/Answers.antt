use Rattle.edits.proofs.Applied.{applied}
use Rattle.edits.proofs.applying.apply.Goals as goal

pub returns-in-Swap : goal.returns-in-Swap
returns-in-Swap g c = rw c.in-Swap.is (applied _ _ _ _ _ _ (c.swap.result, c.swap.ensures, c.with_no_saving.ensures))
