-- The week's edits, and the listing behind their lines.
use Rattle.std.proofs.Common.{◌≡◌, ℕ, ◌+◌, ◌<◌, ◌≤◌, true, List, [], ◌∷◌, ◌++◌, map, length, drop, Ok, Err, sum_by, Result, sym, refl, ap, ◌∙◌, subst, inl, inr, arith, length-append, length-drop}
use Rattle.std.specs.List.{AllByRecursion}
use Rattle.book.specs.Weeks.{ChangeFits, Fits, Week, said}
use Rattle.edits.specs.Applying.{saved}
use Rattle.shaping.specs.declared.fault.EditFault.{EditFault}
use Rattle.lines.proofs.Puts.{put_more}
use Rattle.lines.specs.Writing.{Put}
use Rattle.lines.specs.declared.answer.ShortBuffer.{ShortBuffer}
use Rattle.orders.specs.Changes.{Change}
use Rattle.records.specs.Lines.{Line}
use Rattle.records.specs.Lines.Line.{fact, act, step, edit}
use Rattle.week.proofs.Laid.{good_as_laid}
use Rattle.week.proofs.Prices.{week_listing, week_prices}
use Rattle.week.proofs.Working.{carried_even, carried_good}
use Rattle.week.specs.Editing.{CarriedOut, Outgrown, Replied, book_prices, changes_in, replies, with_change}
use Rattle.week.specs.Output.{Edited, LaidAs, Listed, WeekCut, Writes, sheet_text, task_text}
use Rattle.week.specs.declared.answering.Outcome.TheVariants.{Listed as ListedAs}
use Rattle.sheet.specs.Sheets.{actions}
use Rattle.sheet.specs.declared.sheet.Sheet.{Sheet}
use Rattle.task.specs.declared.tasks.Task.{Task}

-- lines that are no edits
no_changes : {X : Type 0} (line : X → Line) → ((x : X) (changes : List Change) → with_change (line x) changes ≡ changes) → (xs : List X) (rest : List Line) → changes_in (map line xs ++ rest) ≡ changes_in rest
no_changes line none [] rest = refl
no_changes line none (x ∷ xs) rest = none x _ ∙ no_changes line none xs rest

all_changes : (changes : List Change) → changes_in (map edit changes) ≡ changes
all_changes [] = refl
all_changes (c ∷ changes) = ap (λ (l : List Change). c ∷ l) (all_changes changes)

pub week_changes : (w : Week) → changes_in (said w) ≡ w.changes
week_changes w =
    no_changes fact (λ x l. refl) w.facts _ ∙ no_changes act (λ x l. refl) w.deeds _ ∙ no_changes step (λ x l. refl) w.steps _ ∙ all_changes w.changes

pub week_changes_fit : (w : Week) → Fits w → AllByRecursion ChangeFits (changes_in (said w))
week_changes_fit w fits = subst (AllByRecursion ChangeFits) (sym (week_changes w)) fits.change

module _ (w : Week) (task : Task) (laid : Sheet) (is : LaidAs w task laid) where
  edited : (changes : List Change) (answers : List (Result ℕ EditFault)) (last : Sheet) → CarriedOut task laid changes answers last → Edited w changes answers last
  edited changes answers last carried = record {
    task = task;
    of_week = is.of_week;
    laid = laid;
    laid_steps = is.steps;
    laid_outline = is.order;
    good_as_laid = good_as_laid w task laid is;
    carried = carried;
    good_at_last = (carried_good task laid last changes answers carried is.passes).1;
    balanced =
        subst (λ (p : ℕ → ℕ). sum_by p w.steps ≡ sum_by p (actions last) + sum_by saved answers) (week_prices w task is.of_week)
        (subst (λ (l : List ℕ). sum_by (book_prices task) l ≡ sum_by (book_prices task) (actions last) + sum_by saved answers) is.steps (carried_even task laid last changes answers carried));
  }

  -- the lines are longer than the buffer
  pub outgrown : (room : List ℕ) (e : ShortBuffer) (after : Sheet) (out : List ℕ) → Outgrown task laid (changes_in (said w)) room after out → Writes (λ accepted text. (accepted ≡ true) × Listed text w) (WeekCut w) room (Err e) out
  outgrown room e after out o = inl (record {
    front = o.front;
    more = o.more;
    split = sym (week_changes w) ∙ o.split;
    answers = o.answers;
    answer = o.last;
    last = after;
    edited = edited o.front _ after o.carried;
    short = o.short;
    wrote = o.wrote;
  })

  module _ (room : List ℕ) (at : ℕ) (last : Sheet) (out : List ℕ) (r : Replied task laid (changes_in (said w)) room at last out) where
    abbrev listing : List ℕ
    listing = task_text task (actions last)

    same_length : length out ≡ length room
    same_length = ap length r.wrote ∙ length-append (replies r.answers) _ ∙ omega (arith, r.fits, length-drop (length (replies r.answers)) room)

    all_edited : Edited w w.changes r.answers last
    all_edited = edited w.changes r.answers last (subst (λ (l : List Change). CarriedOut task laid l r.answers last) (week_changes w) r.carried)

    same_text : replies r.answers ++ listing ≡ replies r.answers ++ sheet_text w last
    same_text = ap (λ (l : List ℕ). replies r.answers ++ l) (week_listing w task is.of_week (actions last))

    listed : Listed (replies r.answers ++ listing) w
    listed = (r.answers, (last, all_edited, same_text))

    put : Put (replies r.answers) room 0 at out
    put = record { place = r.bytes_written ∙ omega arith; bytes = r.wrote ∙ ap (λ n. replies r.answers ++ drop n room) (sym r.bytes_written) }

    pub listed_behind : (next : ℕ) (after : List ℕ) → Put listing out at next after → next ≤ length out → Writes (λ accepted text. (accepted ≡ true) × Listed text w) (WeekCut w) room (Ok (ListedAs next)) after
    listed_behind next after behind fits =
        let all = put_more (omega arith) put behind in
        let len : next ≡ length (replies r.answers ++ listing) = all.place ∙ omega arith in
        (replies r.answers ++ listing, (refl, listed), omega (arith, same_length), len, all.bytes ∙ ap (λ n. (replies r.answers ++ listing) ++ drop n room) len)

    pub listing_outgrown : (e : ShortBuffer) (after : List ℕ) → length out < at + length listing → after ≡ out → Writes (λ accepted text. (accepted ≡ true) × Listed text w) (WeekCut w) room (Err e) after
    listing_outgrown e after short kept = inr (record {
      answers = r.answers;
      last = last;
      edited = all_edited;
      short = omega (arith, same_length, r.bytes_written, length-append (replies r.answers) listing, ap length same_text);
      wrote = kept ∙ r.wrote;
    })
