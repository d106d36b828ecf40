-- The promise of the whole week.
use Rattle.std.proofs.Common.{ℕ}
use Rattle.driving.proofs.Laid.{good_sheet_serves_as_laid}
use Rattle.driving.specs.Meanings.{Meaning}
use Rattle.runs.specs.Views.{work}
use Rattle.sheet.proofs.SheetRules.{sheet_rules}
use Rattle.sheet.specs.Sheets.{actions, outline}
use Rattle.whole_week.proofs.Answering.{judged, judged_decided, judged_exact}
use Rattle.whole_week.proofs.Asking.{accepted_asks, refused_asks}
use Rattle.whole_week.proofs.Edited.{edits_balance, edits_pass, laid_passes}
use Rattle.whole_week.proofs.Working.{all_serve, known_all, sheet_sound}
use Rattle.whole_week.specs.Week.{WholeWeek}

-- all of it, for rigs of any two kinds and for any prices
pub whole_week : {R S : Type 0} (first : R → Meaning) (second : S → Meaning) (prices : ℕ → ℕ) → WholeWeek first second prices
whole_week first second prices task plan laid changes sum sheet lays edits =
    let (known, good) = laid_passes task plan laid lays in
    let passes = edits_pass prices task laid (known, good) edits in
    let sound = sheet_sound task laid known in
    let stays_sound = sheet_sound task sheet passes.0 in
    record {
      as_laid = λ rig begins.
          good_sheet_serves_as_laid (work task laid) (sheet_rules laid) (known_all task (actions laid) (outline laid) sound) good (first rig) begins;
      over_laid = λ rig begins m. all_serve task (actions laid) (outline laid) sound good (first rig) begins m;
      as_edited = λ rig begins m. all_serve task (actions sheet) (outline sheet) stays_sound passes.1 (second rig) begins m;
      balanced = edits_balance prices task laid edits;
      decided = λ change numbers order asks answer after applies.
          judged_decided task answer numbers order (judged task sheet answer after passes prices change numbers order asks applies.by_rule);
      exact = λ change numbers order asks answer after applies.
          let exact = judged_exact task answer numbers order (judged task sheet answer after passes prices change numbers order asks applies.by_rule) in
          (λ rig. exact (first rig), λ rig. exact (second rig));
      accepted = λ change saving after applies. accepted_asks prices task sheet after change saving applies.by_rule;
      refused = λ change answer after applies (place, (fact, wants)).
          refused_asks prices task sheet after answer place fact wants change applies.by_rule;
    }
