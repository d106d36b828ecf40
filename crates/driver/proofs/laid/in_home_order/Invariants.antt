use Rattle.std.proofs.Common.{◌≡◌}
use Rattle.driver.proofs.laid.in_home_order.Given as goal
use Rattle.driving.specs.Drivings.{AsLaid}
use Rattle.runs.specs.Views.{moment_of, work, work_of}

-- the positions below p are taken and done
abbrev pub invariant-loop-p : goal.invariant-loop-p
invariant-loop-p g l =
    record {
      over : work_of l.run ≡ work l.task l.sheet;
      keeps : g.R.Rig.kept l.fn.rig l.rig;
      laid : AsLaid (work l.task l.sheet) (g.R.Rig.meaning l.fn.rig) l.p (moment_of l.run (g.R.Rig.meaning l.rig));
    }
