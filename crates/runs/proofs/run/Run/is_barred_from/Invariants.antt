use Rattle.std.proofs.Common.{ℕ, ◌<◌, ◌≤◌}
use Rattle.runs.proofs.run.Run.is_barred_from.Given as goal
use Rattle.runs.specs.Views.{Lets, is_done, work_of}

-- none that ends before b does
abbrev pub invariant-loop-b : goal.invariant-loop-b
invariant-loop-b l = (d : ℕ) → l.a ≤ d → d < l.b → Lets (work_of l.self).order (is_done l.self) l.p l.a d
