-- What edits save fits into the price of a sheet, and that into a number of 32 bits.
use Rattle.std.proofs.Common.{◌≡◌, ℕ, ◌+◌, ◌*◌, ◌<◌, ◌≤◌, ◌^◌, List, [], ◌∷◌, map, take, length, get_or, Ok, Err, Result, sum_by, refl, sym, ap, ◌∙◌, subst, add-one, arith}
use Rattle.std.proofs.Math.Seq.{take-suc}
use Rattle.std.proofs.lemmas.List.{map-append}
use Rattle.std.proofs.lemmas.List.Sums.{sum_by-cons}
use Rattle.std.specs.Result.{result_unwrap_or}
use Rattle.edits.specs.Applying.{Applies, change_of, saved}
use Rattle.edits.specs.declared.edit.Edit.{Edit}
use Rattle.orders.specs.Changes.{Change}
use Rattle.sets.proofs.Held.{contents_fit}
use Rattle.shaping.specs.declared.fault.EditFault.{EditFault}
use Rattle.sheet.specs.Sheets.{actions}
use Rattle.sheet.specs.declared.sheet.Sheet.{Sheet}
use Rattle.task.specs.Prices.{Lawful}
use Rattle.task.specs.declared.tasks.Task.{Task}
use Rattle.whole_week.proofs.Edited.{edits_balance}
use Rattle.whole_week.specs.Week.{Edits}
use Rattle.whole_week.specs.Week.Edits.{more}

-- what is added for an answer is what it says is saved
pub added : (answer : Result ℕ EditFault) → result_unwrap_or answer 0 ≡ saved answer
added (Ok saving) = refl
added (Err fault) = refl

-- a sum of prices is at most as many times the highest
sum_bounded : (prices : ℕ → ℕ) → ((action : ℕ) → prices action ≤ 1000000) → (numbers : List ℕ) → sum_by prices numbers ≤ length numbers * 1000000
sum_bounded prices bound [] = omega arith
sum_bounded prices bound (x ∷ numbers) = omega (arith, sum_by-cons prices x numbers, bound x, sum_bounded prices bound numbers)

module _ (highest : ℕ) (prices : ℕ → ℕ) (lawful : Lawful highest prices) (task : Task) (first : Sheet) where
  -- the sum of all that edits save
  pub sum_fits : {changes : List Change} {sum : ℕ} {sheet : Sheet} → Edits prices task first changes sum sheet → sum < 2 ^ 32
  sum_fits edits =
      let few = contents_fit first.steps in
      let top = sum_bounded prices (λ n. omega (arith, lawful.bounded n, lawful.fits)) (actions first) in
      omega (arith, edits_balance prices task first edits)

  module _ (edits : List Edit) (k : ℕ) (d : Edit) (less : k < length edits) (sum : ℕ) (before after : Sheet) (answer : Result ℕ EditFault)
      (so_far : Edits prices task first (map change_of (take k edits)) sum before)
      (applies : Applies prices task before (change_of (get_or edits k d)) answer after) where
    -- one edit more is carried out
    pub one_more : Edits prices task first (map change_of (take (k + 1) edits)) (sum + saved answer) after
    one_more =
        let grows = ap (λ i. map change_of (take i edits)) (add-one k) ∙ ap (map change_of) (take-suc edits k d less) ∙ map-append change_of (take k edits) (get_or edits k d ∷ []) in
        subst (λ changes. Edits prices task first changes (sum + saved answer) after) (sym grows) (more {before = before} after (change_of (get_or edits k d)) answer so_far applies)
