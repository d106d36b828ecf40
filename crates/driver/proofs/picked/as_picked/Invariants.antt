use Rattle.std.proofs.Common.{◌≡◌, ◌-◌}
use Rattle.std.specs.Fn.{CalledAt}
use Rattle.driver.proofs.picked.as_picked.Given as goal
use Rattle.driver.specs.Ends.{Follows}
use Rattle.runs.specs.Views.{is_done, moment_of, work, work_of}
use Rattle.sets.specs.Member.{tally}
use Rattle.sheet.specs.Sheets.{outline}

-- what the closure picked is taken and done
abbrev pub invariant-loop-run : goal.invariant-loop-run
invariant-loop-run g l =
    record {
      callable : goal.C-IsAlwaysCallable g l.choose;
      over : work_of l.run ≡ work l.task l.sheet;
      keeps : g.R.Rig.kept l.fn.rig l.rig;
      follows : Follows (CalledAt g.C.FnMut) (work l.task l.sheet) (g.R.Rig.meaning l.fn.rig) l.fn.choose l.choose
          (moment_of l.run (g.R.Rig.meaning l.rig));
    }

-- how many positions are undone
abbrev pub decreases-loop-run : goal.decreases-loop-run
decreases-loop-run g l = (outline l.sheet).size - tally (is_done l.run) (outline l.sheet).size
