-- What replace answers, by the sheet asked for.
use Rattle.std.proofs.Common.{◌≡◌, ℕ, ◌+◌, ◌-◌, ◌<◌, ◌≤◌, List, ◌++◌, length, sum_by, sym, refl, ap, ◌∙◌, subst, inl, inr, ⊎_elim, get_or, Ok, Err, Result, arith}
use Rattle.std.proofs.lemmas.List.{get_or-append-add, get_or_append_left, length-append}
use Rattle.std.proofs.lemmas.List.Elements.{All-from_get_or, All-get_or}
use Rattle.edits.proofs.PutIn.{put_in_all, sum_by-put_in}
use Rattle.shaping.specs.Answers.{CheckRefused}
use Rattle.edits.specs.Replacing.{IsAsked, IsReplaced, NotAsked, ReplaceRefused, from_to, put_in}
use Rattle.shaping.specs.declared.fault.EditFault.{EditFault}
use Rattle.shaping.specs.declared.fault.EditFault.TheVariants.{NotCheaper, Sheet as OfSheet}
use Rattle.orders.specs.Sheets.{Outline}
use Rattle.orders.specs.EditTheorems.{BlocksAround, TiedAround}
use Rattle.orders.proofs.EditReplace.{replace_keeps_blocks, replace_keeps_ties}
use Rattle.sheet.proofs.SheetRules.{sheet_rules}
use Rattle.sheet.specs.Sheets.{actions, outline}
use Rattle.sheet.specs.Verdicts.{AllKnown, ChecksActions, FirstUnknown, Known, LowestWanting, Passes, effects_of}
use Rattle.sheet.specs.declared.fault.SheetFault.{SheetFault}
use Rattle.std.proofs.lemmas.Bool.{cases_lt}
use Rattle.sheet.specs.declared.sheet.Sheet.{Sheet}
use Rattle.task.specs.declared.tasks.Task.{Task}

module _ (task : Task) (xs ys : List ℕ) (known : AllKnown task (xs ++ ys)) where
  known_front : AllKnown task xs
  known_front k l = rw (sym (get_or_append_left xs ys 0 k l)) (known k (omega (arith, length-append xs ys)))

  pub known_back : AllKnown task ys
  known_back k l = rw (sym (get_or-append-add xs ys k 0)) (known (length xs + k) (omega (arith, length-append xs ys)))

  -- if the task has all of both lists, it has all of what comes out
  pub put_in_known : (a b : ℕ) → AllKnown task (put_in xs a b ys)
  put_in_known a b k l =
      let old = All-from_get_or (Known task) xs 0 known_front in
      let new = All-from_get_or (Known task) ys 0 known_back in
      All-get_or (Known task) (put_in xs a b ys) k 0 l (put_in_all xs a b ys (Known task) old new)

-- what the check of two lists of action numbers says, one after the other
module _ (task : Task) (xs ys : List ℕ) where
  pub first_in_front : (number : ℕ) → FirstUnknown task xs number → FirstUnknown task (xs ++ ys) number
  first_in_front number f = record {
    at = f.at;
    within = omega (arith, f.within, length-append xs ys);
    there = get_or_append_left xs ys 0 f.at f.within ∙ f.there;
    lacking = f.lacking;
    first = λ k l. rw (get_or_append_left xs ys 0 k (omega (arith, f.within))) (f.first k l);
  }

  -- of all numbers of xs ++ ys below a place, if the task has all of xs
  before_place : AllKnown task xs → (n : ℕ) → ((k : ℕ) → k < n → Known task (get_or ys k 0)) → (k : ℕ) → k < length xs + n → Known task (get_or (xs ++ ys) k 0)
  before_place known n h k l = ⊎_elim
      (λ m. rw (get_or_append_left xs ys 0 k m) (known k m))
      (λ m.
      let e : length xs + (k - length xs) ≡ k = omega arith in
      subst (λ (j : ℕ). Known task (get_or (xs ++ ys) j 0)) e (rw (get_or-append-add xs ys (k - length xs) 0) (h (k - length xs) (omega arith))))
      (cases_lt k (length xs))

  pub known_in_front : AllKnown task xs → (r : Result (Unit {0}) SheetFault) → ChecksActions task ys r → ChecksActions task (xs ++ ys) r
  known_in_front known (Ok u) h = λ k l. before_place known (length ys) h k (omega (arith, length-append xs ys))
  known_in_front known (Err fault) (number, is, f) = (
    number,
    is,
    record {
      at = length xs + f.at;
      within = omega (arith, f.within, length-append xs ys);
      there = get_or-append-add xs ys f.at 0 ∙ f.there;
      lacking = f.lacking;
      first = before_place known f.at f.first;
    },
  )

module _ (task : Task) (before : Sheet) (a b : ℕ) (list : List ℕ) where
  module _ (prices : ℕ → ℕ) (asked : Sheet) (is : IsAsked task before a b list asked) where
    later : (fault : EditFault) (Later : Type 0) → Later → NotAsked task before a b list fault Later
    later fault Later h = inr (is.run, inr (is.whole, inr (is.some, inr (is.room, inr (is.known, h)))))

    known_asked : AllKnown task (actions asked)
    known_asked = rw is.new_actions (put_in_known task (actions before) list is.known a b)

    costs : sum_by prices (actions asked) + sum_by prices (from_to (actions before) a b) ≡ sum_by prices (actions before) + sum_by prices list
    costs = ap (λ (l : List ℕ). sum_by prices l + sum_by prices (from_to (actions before) a b)) is.new_actions ∙ sum_by-put_in (actions before) a b list is.run.0 is.run.1 prices

    pub not_cheaper : sum_by prices (actions before) ≤ sum_by prices (actions asked) → ReplaceRefused prices task before a b list NotCheaper
    not_cheaper h = later NotCheaper _ (inl ((λ less. omega (arith, costs)), refl))

    module _ (h : sum_by prices (actions asked) < sum_by prices (actions before)) where
      pub refused_by_check : (fault : EditFault) → CheckRefused task asked (outline asked) fault → ReplaceRefused prices task before a b list fault
      refused_by_check fault (why, e, inl (number, f, first)) = absurd (omega (arith, known_asked first.at first.within, first.there, first.lacking))
      refused_by_check fault (why, e, inr (place, (fact, f, all, lowest))) =
          let here = subst (λ (l : List ℕ). LowestWanting (outline asked) (effects_of task l) place fact) is.new_actions lowest in
          let wanting = subst (λ (s : Outline). LowestWanting s (effects_of task (put_in (actions before) a b list)) place fact) is.new_outline here in
          later fault _ (inr (omega (arith, costs), (place, (fact, e ∙ ap OfSheet f, wanting))))

      pub accepted : Passes task (actions asked) (outline asked) → IsReplaced prices task before a b list (sum_by prices (actions before) - sum_by prices (actions asked)) asked
      accepted good =
          let rules = sheet_rules before in
          let m = length list in record {
            asked = is;
            tied_around = subst (λ (s : Outline). TiedAround (outline before) s a b m) (sym is.new_outline) (replace_keeps_ties (outline before) rules a b m is.whole);
            blocks_around = subst (λ (s : Outline). BlocksAround (outline before) s a b m) (sym is.new_outline) (replace_keeps_blocks (outline before) rules a b m is.whole is.some);
            cheaper = omega (arith, costs);
            good = good;
            saves = omega arith;
          }
