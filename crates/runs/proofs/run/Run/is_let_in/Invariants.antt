use Rattle.std.proofs.Common.{ℕ, ◌<◌}
use Rattle.runs.proofs.run.Run.is_let_in.Given as goal
use Rattle.runs.specs.Views.{Lets, is_done, work_of}

-- no block from a position below a bars p
abbrev pub invariant-loop-a : goal.invariant-loop-a
invariant-loop-a l = (c : ℕ) → c < l.a → (d : ℕ) → Lets (work_of l.self).order (is_done l.self) l.p c d
