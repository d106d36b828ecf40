-- When group can be made, the ties that it adds, and what it leaves.
use Rattle.std.proofs.Common.{◌≡◌, ℕ, suc, ◌+◌, ◌<◌, ◌≤◌, Bool, true, false, ◌&&◌, ◌||◌, leb, MatchBool, add-one, sym, ap, ◌∙◌, subst, arith}
use Rattle.std.proofs.lemmas.Bool.{cases_Bool, cases_lt, le-leb}
use Rattle.std.proofs.lemmas.Bool.Decides.{nat_tests}
use Rattle.shaping.specs.Answers.{Crossed, IsGrouped, crosses}
use Rattle.orders.proofs.Below.{below_is, refuted}
use Rattle.orders.proofs.EditGroup.{group_adds_fewest, group_keeps_good, group_orders_are_old}
use Rattle.orders.specs.Check.{inside, some_below}
use Rattle.orders.specs.Edits.{CanGroup, grouped}
use Rattle.orders.specs.Facts.{Good}
use Rattle.orders.specs.Running.{RunningOrder}
use Rattle.orders.specs.Sheets.{Outline, Rules}
use Rattle.sheet.specs.Sheets.{actions, outline}
use Rattle.sheet.specs.Verdicts.{effects, effects_of}
use Rattle.sheet.specs.declared.sheet.Sheet.{Sheet}

-- nothing below n is a or behind it
pub none_ahead : (a n : ℕ) (test : ℕ → Bool) → n ≤ a → some_below n (λ y. leb a y && test y) ≡ false
none_ahead a n test l = refuted _ (λ h. let (k, m, g) = (below_is (λ y. leb a y && test y) n).0 h in grind (arith, nat_tests))

pub grouped_is : (before after : Sheet) (a b : ℕ) → CanGroup (outline before) a b → (outline before).block a b ≡ false → actions after ≡ actions before → outline after ≡ grouped (outline before) a b → IsGrouped before a b after
grouped_is before after a b can free same e = record {
  can = can;
  no_block = free;
  same_actions = same;
  new_outline = e;
  fewest_ties = λ t rules block old x y h. group_adds_fewest (outline before) t rules a b block old x y (sym (ap (λ (s : Outline). s.tied x y) e) ∙ h);
  orders_are_old = λ order h. group_orders_are_old (outline before) a b order (subst (λ s. RunningOrder s order) e h);
  stays_good = λ task good. subst (λ numbers. Good (outline after) (effects_of task numbers)) (sym same) (subst (λ s. Good s (effects task before)) (sym e) (group_keeps_good (outline before) a b (effects task before) good));
}

-- what is tied behind the positions from a on and ahead of i, with i as one more
pub tied_behind_more : (s : Outline) (a x i : ℕ) (old new : Bool) → a ≤ i → old ≡ some_below i (λ y. leb a y && s.tied y x) → new ≡ (old || s.tied i x) → new ≡ some_below (i + 1) (λ y. leb a y && s.tied y x)
tied_behind_more s a x i old new l e f = let here = le-leb a i l in rw add-one (grind (arith, cases_Bool (s.tied i x)))

-- whether some block crosses a run, or it can become one
pub crossed_or_can : (s : Outline) → Rules s → s.size ≤ 128 → (a b : ℕ) → a < b → b < s.size → (r : Bool) → MatchBool r ((c : ℕ) × (0 ≤ c) × (c < 128) × ((d : ℕ) × (s.block c d ≡ true) × (crosses a b c d ≡ true))) ((c : ℕ) → 0 ≤ c → c < 128 → (d : ℕ) → s.block c d ≡ true → crosses a b c d ≡ false) → MatchBool r (Crossed s a b) (CanGroup s a b)
crossed_or_can s rules room a b l m true (c, _, _, found) = (c, found)
crossed_or_can s rules room a b l m false none = record {
  several = l;
  positions = m;
  clear = λ c d h.
      let p = rules.proper c d h in
      let e = none c (omega arith) (omega arith) d h in
      grind (arith, nat_tests, cases_lt c a, cases_lt d a, cases_lt b c, cases_lt b d);
}

-- whether some position of a run passes, by whether the sets of those that pass and of the run meet
pub some_inside : (test : ℕ → Bool) (a b : ℕ) (row block : ℕ → Bool) → ((z : ℕ) → row z ≡ test z) → ((z : ℕ) → block z ≡ inside a b z) → (r : Bool) → MatchBool r ((z : ℕ) × ((row z && block z) ≡ true)) ((z : ℕ) → (row z && block z) ≡ false) → some_below (suc b) (λ y. leb a y && test y) ≡ r
some_inside test a b row block p q true (z, h) = (below_is (λ y. leb a y && test y) (suc b)).1 (z, grind (arith, nat_tests, p z, q z), grind (arith, nat_tests, p z, q z))
some_inside test a b row block p q false none = refuted _ (λ h. let (z, l, g) = (below_is (λ y. leb a y && test y) (suc b)).0 h in let n = none z in grind (arith, nat_tests, p z, q z))
