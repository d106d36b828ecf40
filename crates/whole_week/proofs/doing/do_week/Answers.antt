use Rattle.std.proofs.Common.{ap, sum_by, sym, ◌∙◌}
use Rattle.sheet.specs.Sheets.{actions, outline}
use Rattle.whole_week.proofs.Edited.{edits_balance, edits_pass, laid_passes}
use Rattle.whole_week.proofs.Promising.{whole_week}
use Rattle.whole_week.proofs.Working.{known_all, sheet_sound}
use Rattle.whole_week.proofs.doing.do_week.Goals as goal

pub returns-in_err-laid-clause-promise : goal.returns-in_err-laid-clause-promise
returns-in_err-laid-clause-promise g c = whole_week g.R.Rig.meaning g.S.Rig.meaning (g.T.Tariff.prices c.args.tariff.now)

pub returns-clause-does : goal.returns-clause-does
returns-clause-does g c =
    let prices = g.T.Tariff.prices c.args.tariff.now in
    let task = c.args.task.now in
    let laid = c.in_ok-laid.laid in
    let sheet = c.apply_all-saved.new.sheet in
    let lays = c.in_ok-laid.ensures in
    let (known, good) = laid_passes task c.args.plan.now laid lays in
    let passes = edits_pass prices task laid (known, good) c.apply_all-saved.ensures in
    record {
      laid = laid;
      lays = lays;
      as_laid = c.do_as_laid-as_laid.ensures.as_laid;
      edited = c.apply_all-saved.ensures;
      as_edited = c.drive-as_edited.ensures.ends;
      passes = passes;
      balanced = ap (sum_by prices) (sym lays.1) ∙ edits_balance prices task laid c.apply_all-saved.ensures;
      first_well = c.do_as_laid-as_laid.ensures.well (known_all task (actions laid) (outline laid) (sheet_sound task laid known)) good;
      second_well = c.drive-as_edited.ensures.well (known_all task (actions sheet) (outline sheet) (sheet_sound task sheet passes.0)) passes.1;
    }

pub returns-clause-promise : goal.returns-clause-promise
returns-clause-promise g c = whole_week g.R.Rig.meaning g.S.Rig.meaning (g.T.Tariff.prices c.args.tariff.now)
