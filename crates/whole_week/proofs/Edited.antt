-- What edits one after another keep.
use Rattle.std.proofs.Common.{◌≡◌, ℕ, ◌+◌, List, length, Ok, sum_by, sym, subst, arith}
use Rattle.orders.specs.Changes.{Change}
use Rattle.orders.specs.Sheets.{Outline}
use Rattle.sheet.specs.Sheets.{actions, outline}
use Rattle.sheet.specs.Verdicts.{Lays, Passes, in_a_row}
use Rattle.sheet.specs.declared.sheet.Sheet.{Sheet}
use Rattle.task.specs.declared.tasks.Task.{Task}
use Rattle.whole_week.specs.Week.{Edits}
use Rattle.whole_week.specs.Week.Edits.{more, none}

-- the sheet of a laid plan passes the check
pub laid_passes : (task : Task) (plan : List ℕ) (laid : Sheet) → Lays task plan (Ok laid) → Passes task (actions laid) (outline laid)
laid_passes task plan laid (_, same, row, passes) =
    subst (λ (s : Outline). Passes task (actions laid) s) (sym row)
    (subst (λ (numbers : List ℕ). Passes task numbers (in_a_row (length plan))) (sym same) passes)

module _ (prices : ℕ → ℕ) (task : Task) (first : Sheet) where
  -- so does every sheet that edits make of it
  pub edits_pass : Passes task (actions first) (outline first) → {changes : List Change} {sum : ℕ} {sheet : Sheet} → Edits prices task first changes sum sheet →
      Passes task (actions sheet) (outline sheet)
  edits_pass passes none = passes
  edits_pass passes (more after change answer edits applies) = applies.stays_good (edits_pass passes edits)

  -- and its price is that sheet's and all that was saved
  pub edits_balance : {changes : List Change} {sum : ℕ} {sheet : Sheet} → Edits prices task first changes sum sheet →
      sum_by prices (actions first) ≡ sum_by prices (actions sheet) + sum
  edits_balance none = omega arith
  edits_balance (more after change answer edits applies) = omega (arith, edits_balance edits, applies.balanced)
