-- A sheet whose outline and actions are as swap leaves them is what swap promises.
use Rattle.std.proofs.Common.{◌≡◌, ℕ, ◌-◌, false, List, length, sym, subst, arith}
use Rattle.std.specs.List.{slice_get}
use Rattle.std.specs.Option.{option_flatten, option_map}
use Rattle.shaping.proofs.Outlines.{outlines_same}
use Rattle.edits.proofs.SwapLaws.{comes_lt}
use Rattle.edits.proofs.SwapLists.{same_get_or, same_length, same_sum}
use Rattle.edits.specs.Swaps.{IsSwapped}
use Rattle.orders.proofs.EditSwap.{bounds, swap_carries_blocks, swap_keeps_good, swap_renames_orders}
use Rattle.orders.specs.EditTheorems.{BlocksCarried, OrdersRenamed}
use Rattle.orders.specs.Edits.{Neighbours, carried, comes, goes, swapped}
use Rattle.orders.specs.Facts.{Effects, Good}
use Rattle.orders.specs.Sheets.{Outline}
use Rattle.sets.specs.Contents.{contents}
use Rattle.sets.specs.declared.bits.BitSet.{BitSet}
use Rattle.sets.specs.declared.list.ArrayVec.{ArrayVec}
use Rattle.sheet.proofs.SheetRules.{sheet_rules}
use Rattle.sheet.specs.Rows.{in_row, outlined}
use Rattle.sheet.specs.Sheets.{actions, outline}
use Rattle.sheet.specs.Verdicts.{AllKnown, Known, effects, effects_of, has_fact}
use Rattle.sheet.specs.declared.sheet.Sheet.{Sheet}
use Rattle.task.specs.declared.tasks.Task.{Task}

-- the effects go where the actions go
pub carried_effects : (task : Task) (xs ys : List ℕ) (from : ℕ → ℕ) → ((x : ℕ) → slice_get ys x ≡ slice_get xs (from x)) → effects_of task ys ≡ carried from (effects_of task xs)
carried_effects task xs ys from is = λ i. record {
  needs = λ x. has_fact (λ a. a.needs) (option_flatten (option_map (slice_get (contents task.actions)) (is x i)));
  adds = λ x. has_fact (λ a. a.adds) (option_flatten (option_map (slice_get (contents task.actions)) (is x i)));
  deletes = λ x. has_fact (λ a. a.deletes) (option_flatten (option_map (slice_get (contents task.actions)) (is x i)));
  start = (effects_of task xs).start;
  goal = (effects_of task xs).goal;
}

module _ (before : Sheet) (a k b : ℕ) (parts : Neighbours (outline before) a k b) (numbers : List ℕ) (is : (x : ℕ) → slice_get numbers x ≡ slice_get (actions before) (comes a k b x)) where
  -- as many actions stand after a swap as before it
  pub swap_length : length numbers ≡ length (actions before)
  swap_length =
      let n = bounds (outline before) (sheet_rules before) a k b parts in
      same_length (actions before) a k b n.left n.right n.size numbers is

  -- and every one stood somewhere before it
  pub swap_known : (task : Task) → AllKnown task (actions before) → AllKnown task numbers
  swap_known task known x l =
      let n = bounds (outline before) (sheet_rules before) a k b parts in
      let there = known _ (comes_lt a k b n.left n.right x (length (actions before)) n.size (omega (arith, swap_length))) in
      subst (Known task) (sym (same_get_or (actions before) numbers _ x (is x))) there

pub order_is : (before : Sheet) (steps : ArrayVec ℕ 128) (behind blocks : List (BitSet 2)) (a k b : ℕ) → Neighbours (outline before) a k b → ((x : ℕ) → slice_get (contents steps) x ≡ slice_get (actions before) (comes a k b x)) → ((x y : ℕ) → in_row behind x y ≡ (swapped (outline before) a k b).tied x y) → ((c d : ℕ) → in_row blocks c d ≡ (swapped (outline before) a k b).block c d) → outlined steps behind blocks ≡ swapped (outline before) a k b
order_is before steps behind blocks a k b parts is ties ends =
    outlines_same _ _ (swap_length before a k b parts (contents steps) is) ties ends

pub swapped_is : (before after : Sheet) (a m b k : ℕ) → m ≡ k → Neighbours (outline before) a m b → (outline before).tied (m - 1) m ≡ false → outline after ≡ swapped (outline before) a m b → ((x : ℕ) → slice_get (actions after) x ≡ slice_get (actions before) (comes a m b x)) → IsSwapped before k after
swapped_is before after a m b k is-k parts free order is =
    let rules = sheet_rules before in
    let n = bounds (outline before) rules a m b parts in
    subst (λ (v : ℕ). IsSwapped before v after) is-k (record {
      first = a;
      last = b;
      parts = parts;
      untied = free;
      new_outline = order;
      new_actions = is;
      blocks_carried = subst (λ (s : Outline). BlocksCarried (outline before) s (goes a m b) (comes a m b)) (sym order) (swap_carries_blocks (outline before) rules a m b parts);
      orders_renamed = subst (λ (s : Outline). OrdersRenamed (outline before) s (goes a m b) (comes a m b)) (sym order) (swap_renames_orders (outline before) rules a m b parts);
      stays_good = λ task good.
          subst (λ (e : Effects). Good (outline after) e) (sym (carried_effects task (actions before) (actions after) (comes a m b) is))
          (subst (λ (s : Outline). Good s (carried (comes a m b) (effects task before))) (sym order) (swap_keeps_good (outline before) rules a m b parts (effects task before) good));
      same_price = same_sum (actions before) a m b n.left n.right n.size (actions after) is;
    })
