use Rattle.std.proofs.Common.{None}
use mathlib.Core.Path.{ap, fun_ext}
use Rattle.runs.proofs.run.Run.open.Goals as goal

pub returns-clause-opens : goal.returns-clause-opens
returns-clause-opens c rig = ap (λ done. record { taken = None; done = done; rig = rig }) (fun_ext c.empty.ensures)
