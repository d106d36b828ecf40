-- What an edit answers is right of the sheet that it was asked for.
use Rattle.std.proofs.Common.{◌≡◌, ℕ, ◌-◌, true, false, ◌⊎◌, ◌↔◌, List, length, Ok, Err, Result, MatchResult, refl, sym, subst, inl, inr, ⊎_elim, arith}
use Rattle.std.proofs.lemmas.Bool.{both_ways, false≢true}
use Rattle.std.proofs.lemmas.Bool.Decides.{nat_tests}
use Rattle.orders.proofs.EditGroup.{group_keeps_good, group_keeps_rules}
use Rattle.orders.proofs.EditLoosen.{loosen_keeps_rules, ungroup_keeps_rules}
use Rattle.orders.proofs.EditReplace.{replace_keeps_rules}
use Rattle.orders.proofs.EditSwap.{bounds, swap_keeps_good, swap_keeps_rules}
use Rattle.orders.specs.Changes.{Change}
use Rattle.orders.specs.Changes.Change.{group, loosen, replace, swap, ungroup}
use Rattle.orders.specs.Edits.{CanGroup, CanLoosen, Neighbours, comes, grouped, loosened, replaced, swapped, ungrouped}
use Rattle.orders.specs.Facts.{Good, Wanting}
use Rattle.orders.specs.Sheets.{Apart, Outline, Rules, Within}
use Rattle.driving.specs.Drivings.{Begins}
use Rattle.driving.specs.Meanings.{Meaning}
use Rattle.driving.specs.Theorems.{SomeDrivingFails}
use Rattle.edits.proofs.PutIn.{length-put_in}
use Rattle.edits.proofs.ReplaceAnswers.{put_in_known}
use Rattle.edits.proofs.SwapSheets.{carried_effects, swap_known, swap_length}
use Rattle.edits.specs.Applying.{ByRule, with_no_saving}
use Rattle.edits.specs.Replacing.{Replaces, Unless, put_in}
use Rattle.edits.specs.Swaps.{Swaps}
use Rattle.runs.specs.Views.{work_in}
use Rattle.shaping.specs.Answers.{CheckRefused, Groups, Loosens, Ungroups, crosses}
use Rattle.shaping.specs.declared.fault.EditFault.{EditFault}
use Rattle.sheet.proofs.SheetRules.{sheet_rules}
use Rattle.sheet.specs.Sheets.{actions, outline}
use Rattle.sheet.specs.Verdicts.{AllKnown, Passes, effects_of}
use Rattle.sheet.specs.declared.sheet.Sheet.{Sheet}
use Rattle.task.specs.declared.tasks.Task.{Task}
use Rattle.whole_week.proofs.Working.{Sound, none_fails, some_fails}
use Rattle.whole_week.specs.Week.{Asks, IsAccepted, RefusedForFact}

-- no fact is wanting and the edit is accepted; or one is, and the answer names one as missing
abbrev Right : Task → Result ℕ EditFault → List ℕ → Outline → Type 0
Right task answer numbers order =
    (Good order (effects_of task numbers) × IsAccepted answer)
    ⊎ (((p : ℕ) × ((f : ℕ) × Wanting order (effects_of task numbers) p f)) × RefusedForFact answer)

-- the answer to an edit that asked for these steps in this order
pub record Judged (task : Task) (answer : Result ℕ EditFault) (numbers : List ℕ) (order : Outline) : Type 0 where
  pub sound : Sound task numbers order
  pub right : Right task answer numbers order

-- where it is right, it is a refusal for a missing fact exactly if some driving fails
pub judged_exact : (task : Task) (answer : Result ℕ EditFault) (numbers : List ℕ) (order : Outline) → Judged task answer numbers order →
    (rig : Meaning) → Begins (work_in task numbers order) rig → RefusedForFact answer ↔ SomeDrivingFails (work_in task numbers order) rig
judged_exact task answer numbers order j rig begins = (
  λ (place, (fact, refused)). ⊎_elim (λ (_, (saving, ok)). cc) (λ ((p, (f, w)), _). some_fails task numbers order j.sound p f w rig begins) j.right,
  λ fails. ⊎_elim (λ (good, _). absurd (none_fails task numbers order j.sound good rig begins fails)) (λ (_, r). r) j.right,
)

-- and it is accepted or such a refusal
pub judged_decided : (task : Task) (answer : Result ℕ EditFault) (numbers : List ℕ) (order : Outline) → Judged task answer numbers order →
    IsAccepted answer ⊎ RefusedForFact answer
judged_decided task answer numbers order j = ⊎_elim (λ (_, ok). inl ok) (λ (_, refused). inr refused) j.right

-- runs that lie apart or one in the other do not cross
not_crossed : (a b c d : ℕ) → crosses a b c d ≡ true → Apart a b c d ⊎ (Within a b c d ⊎ Within c d a b) → ⊥
not_crossed a b c d h clear = ⊎_elim
    (λ apart. ⊎_elim (λ l. absurd (false≢true (grind (arith, nat_tests, h)))) (λ l. absurd (false≢true (grind (arith, nat_tests, h)))) apart)
    (λ w. ⊎_elim (λ (l, m). absurd (false≢true (grind (arith, nat_tests, h)))) (λ (l, m). absurd (false≢true (grind (arith, nat_tests, h)))) w)
    clear

-- what is said where the condition holds
unless_held : {C H L : Type 0} → C → Unless C H L → L
unless_held c (inl (n, _)) = absurd (n c)
unless_held c (inr (_, l)) = l

module _ (task : Task) (before : Sheet) (answer : Result ℕ EditFault) (after : Sheet) where
  -- swap names no missing fact
  pub swap_silent : (k : ℕ) (r : Result (Unit {0}) EditFault) → Swaps before k r after → answer ≡ with_no_saving r →
      RefusedForFact answer → ⊥
  swap_silent k (Ok x) is e (place, (fact, h)) = cc
  swap_silent k (Err fault) (inl (_, f), _) e (place, (fact, h)) = cc
  swap_silent k (Err fault) (inr (_, _, _, f), _) e (place, (fact, h)) = cc

  -- nor does group
  pub group_silent : (a b : ℕ) (r : Result (Unit {0}) EditFault) → Groups before a b r after → answer ≡ with_no_saving r →
      RefusedForFact answer → ⊥
  group_silent a b (Ok x) is e (place, (fact, h)) = cc
  group_silent a b (Err fault) (inl (_, f), _) e (place, (fact, h)) = cc
  group_silent a b (Err fault) (inr (_, _, f), _) e (place, (fact, h)) = cc

  -- swap is accepted where neither of its refusals holds
  swap_accepted : (k : ℕ) (r : Result (Unit {0}) EditFault) → Swaps before k r after → answer ≡ with_no_saving r →
      (a b : ℕ) → Neighbours (outline before) a k b → (outline before).tied (k - 1) k ≡ false → IsAccepted answer
  swap_accepted k (Ok x) is e a b parts free = (0, e)
  swap_accepted k (Err fault) (inl (none, _), _) e a b parts free =
      let n = bounds (outline before) (sheet_rules before) a k b parts in
      absurd (omega (arith, none, n.left, n.right, n.size))
  swap_accepted k (Err fault) (inr (_, _, tied, _), _) e a b parts free = absurd (both_ways _ free tied)

  -- so is group
  group_accepted : (a b : ℕ) (r : Result (Unit {0}) EditFault) → Groups before a b r after → answer ≡ with_no_saving r →
      CanGroup (outline before) a b → (outline before).block a b ≡ false → IsAccepted answer
  group_accepted a b (Ok x) is e can new = (0, e)
  group_accepted a b (Err fault) (inl (none, _), _) e can new = absurd (omega (arith, none, can.several, can.positions))
  group_accepted a b (Err fault) (inr (_, why, _), _) e can new = absurd (⊎_elim
      (λ block. both_ways _ new block)
      (λ (c, (d, block, h)). not_crossed a b c d h (can.clear c d block))
      why)

  -- where the check alone is left to refuse, it decides
  abbrev Checked : Outline → Result (Unit {0}) EditFault → Type 0
  Checked t r = MatchResult r (λ _. Passes task (actions before) t) (CheckRefused task before t)

  -- its answer is right
  checked_right : AllKnown task (actions before) → (t : Outline) (r : Result (Unit {0}) EditFault) → Checked t r →
      answer ≡ with_no_saving r → Right task answer (actions before) t
  checked_right known t (Ok x) passes e = inl (passes.1, (0, e))
  checked_right known t (Err fault) (why, _, inl (number, _, first)) e =
      absurd (omega (arith, known first.at first.within, first.there, first.lacking))
  checked_right known t (Err fault) (why, f, inr (place, (fact, g, _, lowest))) e =
      inr ((place, (fact, lowest.wanting)), (place, (fact, cc)))

  -- ungroup leaves a block to the check
  ungroup_checked : (a b : ℕ) → (outline before).block a b ≡ true → (r : Result (Unit {0}) EditFault) → Ungroups task before a b r after →
      Checked (ungrouped (outline before) a b) r
  ungroup_checked a b h (Ok x) (_, is) = is.passes
  ungroup_checked a b h (Err fault) (inl (n, _), _) = absurd (omega (arith, n, (sheet_rules before).proper a b h))
  ungroup_checked a b h (Err fault) (inr (inl (_, f, _)), _) = absurd (both_ways _ f h)
  ungroup_checked a b h (Err fault) (inr (inr (_, refused)), _) = refused

  -- and loosen a tie with nothing between
  loosen_checked : (i j : ℕ) → (outline before).tied i j ≡ true → CanLoosen (outline before) i j → (r : Result (Unit {0}) EditFault) →
      Loosens task before i j r after → Checked (loosened (outline before) i j) r
  loosen_checked i j h can (Ok x) (_, _, is) = is.passes
  loosen_checked i j h can (Err fault) (inl (n, _), _) = absurd (omega (arith, n, (sheet_rules before).forward i j h))
  loosen_checked i j h can (Err fault) (inr (inl (_, f, _)), _) = absurd (both_ways _ f h)
  loosen_checked i j h can (Err fault) (inr (inr (inl (_, (x, t, u, n, m), _))), _) =
      absurd (⊎_elim (both_ways _ n) (both_ways _ m) (can x t u))
  loosen_checked i j h can (Err fault) (inr (inr (inr (_, _, refused))), _) = refused

  module _ (passes : Passes task (actions before) (outline before)) (prices : ℕ → ℕ) where
    -- replace is right where no other refusal holds
    replace_right : (a b : ℕ) (list numbers : List ℕ) (order : Outline) → Asks prices task before (replace a b list) numbers order →
        (r : Result ℕ EditFault) → Replaces prices task before a b list r after → answer ≡ r →
        Right task answer (put_in (actions before) a b list) (replaced (outline before) a b (length list))
    replace_right a b list numbers order asks (Ok saving) is e = inl (
      subst (λ (s : Outline). Good s (effects_of task (put_in (actions before) a b list))) is.asked.new_outline
          (subst (λ (l : List ℕ). Good (outline after) (effects_of task l)) is.asked.new_actions is.good.1),
      (saving, e),
    )
    replace_right a b list numbers order (run, whole, some, room, known, cheaper, _, _) (Err fault) (refused, _) e =
        let (place, (fact, f, lowest)) =
        unless_held cheaper (unless_held known (unless_held room (unless_held some (unless_held whole (unless_held run refused))))) in
        inr ((place, (fact, lowest.wanting)), (place, (fact, cc)))

    -- an answer is judged in the same steps in another order
    same_steps : (numbers : List ℕ) (order t : Outline) → numbers ≡ actions before → order ≡ t → t.size ≡ (outline before).size → Rules t →
        Right task answer (actions before) t → Judged task answer numbers order
    same_steps numbers order t e f size rules right =
        subst (λ (l : List ℕ). Judged task answer l order) (sym e)
        (subst (Judged task answer (actions before)) (sym f)
        (record { sound = record { rules = rules; fits = omega arith; known = passes.0 }; right = right }))

    -- every edit's answer is right of what it asked for
    pub judged : (change : Change) (numbers : List ℕ) (order : Outline) → Asks prices task before change numbers order →
        ByRule prices task before change answer after → Judged task answer numbers order
    judged (swap k) numbers order (a, (b, parts, free, is, e)) (r, says, h) =
        let s = outline before in
        let rules = sheet_rules before in
        let good = swap_keeps_good s rules a k b parts (effects_of task (actions before)) passes.1 in
        subst (Judged task answer numbers) (sym e) (record {
          sound = record {
            rules = swap_keeps_rules s rules a k b parts free;
            fits = swap_length before a k b parts numbers is;
            known = swap_known before a k b parts numbers is task passes.0;
          };
          right = inl (
            subst (Good (swapped s a k b)) (sym (carried_effects task (actions before) numbers (comes a k b) is)) good,
            swap_accepted k r says h a b parts free,
          );
        })
    judged (group a b) numbers order (can, new, e, f) (r, says, h) =
        let s = outline before in
        same_steps numbers order (grouped s a b) e f (omega arith) (group_keeps_rules s (sheet_rules before) a b can)
        (inl (group_keeps_good s a b (effects_of task (actions before)) passes.1, group_accepted a b r says h can new))
    judged (ungroup a b) numbers order (block, known, e, f) (r, says, h) =
        let t = ungrouped (outline before) a b in
        same_steps numbers order t e f (omega arith) (ungroup_keeps_rules (outline before) (sheet_rules before) a b)
        (checked_right known t r (ungroup_checked a b block r says) h)
    judged (loosen i j) numbers order (tied, can, known, e, f) (r, says, h) =
        let t = loosened (outline before) i j in
        same_steps numbers order t e f (omega arith) (loosen_keeps_rules (outline before) (sheet_rules before) i j can)
        (checked_right known t r (loosen_checked i j tied can r says) h)
    judged (replace a b list) numbers order asks says =
        let (run, whole, some, room, known, cheaper, e, f) = asks in
        subst (λ (l : List ℕ). Judged task answer l order) (sym e)
        (subst (Judged task answer (put_in (actions before) a b list)) (sym f) (record {
          sound = record {
            rules = replace_keeps_rules (outline before) (sheet_rules before) a b (length list) whole some;
            fits = length-put_in (actions before) a b list run.0 run.1;
            known = put_in_known task (actions before) list known a b;
          };
          right = replace_right a b list numbers order asks answer says refl;
        }))
