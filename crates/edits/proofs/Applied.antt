-- What holds of all five edits follows from the rule of each.
use Rattle.std.proofs.Common.{◌≡◌, ℕ, ◌+◌, List, Ok, Err, sum_by, Result, sym, subst, arith}
use Rattle.edits.proofs.SwapSheets.{swap_known}
use Rattle.shaping.specs.Answers.{Groups, IsChecked, Loosens, Ungroups}
use Rattle.edits.specs.Applying.{Applies, ByRule, saved, with_no_saving}
use Rattle.edits.specs.Replacing.{Replaces}
use Rattle.edits.specs.Swaps.{IsSwapped, Swaps}
use Rattle.shaping.specs.declared.fault.EditFault.{EditFault}
use Rattle.orders.specs.Changes.{Change}
use Rattle.orders.specs.Changes.Change.{swap, group, ungroup, loosen, replace}
use Rattle.orders.specs.Sheets.{Outline}
use Rattle.sheet.specs.Sheets.{actions, outline}
use Rattle.sheet.specs.Verdicts.{Passes}
use Rattle.sheet.specs.declared.sheet.Sheet.{Sheet}
use Rattle.task.specs.declared.tasks.Task.{Task}

module _ (prices : ℕ → ℕ) (task : Task) (before after : Sheet) where
  -- what an answer owes beside the edit's own rule
  pub record Owed (answer : Result ℕ EditFault) : Type 0 where
    pub good : Passes task (actions before) (outline before) → Passes task (actions after) (outline after)
    pub even : sum_by prices (actions before) ≡ sum_by prices (actions after) + saved answer
    pub same : (fault : EditFault) → answer ≡ Err fault → after ≡ before

  accepted : (saving : ℕ) → (Passes task (actions before) (outline before) → Passes task (actions after) (outline after)) → sum_by prices (actions before) ≡ sum_by prices (actions after) + saving → Owed (Ok saving)
  accepted saving good even = record { good = good; even = even; same = λ fault e. absurd (let z : ◌≡◌ {A = ℕ} 0 1 = cc in omega arith) }

  refused : (fault : EditFault) → after ≡ before → Owed (Err fault)
  refused fault e = record {
    good = subst (λ (s : Sheet). Passes task (actions s) (outline s)) (sym e);
    even = rw e (omega arith);
    same = λ other h. e;
  }

  -- the steps are the same
  same_steps : actions after ≡ actions before → (Passes task (actions before) (outline before) → Passes task (actions after) (outline after)) → Owed (Ok 0)
  same_steps e good = accepted 0 good (rw e (omega arith))

  checked : (asked : Outline) → IsChecked task before asked after → Owed (Ok 0)
  checked asked is = same_steps is.same_actions (λ _. subst (λ (s : Outline). Passes task (actions after) s) (sym is.new_outline) (subst (λ numbers. Passes task numbers asked) (sym is.same_actions) is.passes))

  module _ (k : ℕ) (is : IsSwapped before k after) where
    swapped_owed : Owed (Ok 0)
    swapped_owed =
        let all = swap_known before is.first k is.last is.parts (actions after) is.new_actions task in
        accepted 0 (λ (known, good). (all known, is.stays_good task good)) (omega (arith, is.same_price prices))

  swap_owed : (k : ℕ) (r : Result (Unit {0}) EditFault) → Swaps before k r after → Owed (with_no_saving r)
  swap_owed k (Ok _) is = swapped_owed k is
  swap_owed k (Err fault) (_, e) = refused fault e

  group_owed : (a b : ℕ) (r : Result (Unit {0}) EditFault) → Groups before a b r after → Owed (with_no_saving r)
  group_owed a b (Ok _) is = same_steps is.same_actions (λ (known, good). (rw is.same_actions known, is.stays_good task good))
  group_owed a b (Err fault) (_, e) = refused fault e

  ungroup_owed : (a b : ℕ) (r : Result (Unit {0}) EditFault) → Ungroups task before a b r after → Owed (with_no_saving r)
  ungroup_owed a b (Ok _) (_, is) = checked _ is
  ungroup_owed a b (Err fault) (_, e) = refused fault e

  loosen_owed : (i j : ℕ) (r : Result (Unit {0}) EditFault) → Loosens task before i j r after → Owed (with_no_saving r)
  loosen_owed i j (Ok _) (_, _, is) = checked _ is
  loosen_owed i j (Err fault) (_, e) = refused fault e

  replace_owed : (a b : ℕ) (list : List ℕ) (r : Result ℕ EditFault) → Replaces prices task before a b list r after → Owed r
  replace_owed a b list (Ok saving) is = accepted saving (λ _. is.good) is.saves
  replace_owed a b list (Err fault) (_, e) = refused fault e

  owed : (change : Change) (answer : Result ℕ EditFault) → ByRule prices task before change answer after → Owed answer
  owed (swap k) answer (r, says, e) = subst Owed (sym e) (swap_owed k r says)
  owed (group a b) answer (r, says, e) = subst Owed (sym e) (group_owed a b r says)
  owed (ungroup a b) answer (r, says, e) = subst Owed (sym e) (ungroup_owed a b r says)
  owed (loosen i j) answer (r, says, e) = subst Owed (sym e) (loosen_owed i j r says)
  owed (replace a b list) answer says = replace_owed a b list answer says

  pub applied : (change : Change) (answer : Result ℕ EditFault) → ByRule prices task before change answer after → Applies prices task before change answer after
  applied change answer says =
      let o = owed change answer says in
      record { by_rule = says; stays_good = o.good; balanced = o.even; unchanged = o.same }
