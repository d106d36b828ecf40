-- The edits of a book as they are carried out one after another.
use Rattle.std.proofs.Common.{◌≡◌, ℕ, ◌+◌, ◌<◌, List, [], ◌∷◌, ◌++◌, length, drop, sum_by, Result, sym, refl, ap, ◌∙◌, subst, append_assoc, arith, length-append}
use Rattle.std.specs.List.{AllByRecursion}
use Rattle.std.proofs.lemmas.List.{flat_map_more}
use Rattle.std.proofs.lemmas.List.Sums.{sum_by-cons}
use Rattle.book.proofs.Turns.{all_parts}
use Rattle.book.specs.Weeks.{ChangeFits, bytes}
use Rattle.edits.specs.Applying.{Applies, saved}
use Rattle.shaping.specs.declared.fault.EditFault.{EditFault}
use Rattle.lines.proofs.Puts.{put_more}
use Rattle.lines.specs.Writing.{Put}
use Rattle.orders.specs.Changes.{Change}
use Rattle.records.specs.Lines.{Line, Proper, ProperChange}
use Rattle.records.specs.Reading.{unread}
use Rattle.records.specs.Records.{EditSays}
use Rattle.records.specs.declared.reader.Reader.{Reader}
use Rattle.records.specs.declared.record.Edit.{Edit}
use Rattle.week.specs.Editing.{CarriedOut, NextEdit, Outgrown, answer_text, book_prices, changes_in, replies}
use Rattle.sheet.specs.Sheets.{actions, outline}
use Rattle.sheet.specs.Verdicts.{Passes}
use Rattle.sheet.specs.declared.sheet.Sheet.{Sheet}
use Rattle.task.specs.declared.tasks.Task.{Task}

module _ (task : Task) where
  -- one edit more
  carried_more : (before mid after : Sheet) (changes : List Change) (answers : List (Result ℕ EditFault)) (change : Change) (answer : Result ℕ EditFault) → CarriedOut task before changes answers mid → Applies (book_prices task) task mid change answer after → CarriedOut task before (changes ++ change ∷ []) (answers ++ answer ∷ []) after
  carried_more before mid after [] [] change answer same last = (after, subst (λ (s : Sheet). Applies (book_prices task) task s change answer after) same last, refl)
  carried_more before mid after [] (a ∷ answers) change answer h last = absurd h
  carried_more before mid after (c ∷ changes) [] change answer h last = absurd h
  carried_more before mid after (c ∷ changes) (a ∷ answers) change answer (next, first, rest) last = (next, first, carried_more next mid after changes answers change answer rest last)

  -- whatever the edits answer, a good sheet stays good
  pub carried_good : (before after : Sheet) (changes : List Change) (answers : List (Result ℕ EditFault)) → CarriedOut task before changes answers after → Passes task (actions before) (outline before) → Passes task (actions after) (outline after)
  carried_good before after [] [] same good = subst (λ (s : Sheet). Passes task (actions s) (outline s)) (sym same) good
  carried_good before after [] (a ∷ answers) h good = absurd h
  carried_good before after (c ∷ changes) [] h good = absurd h
  carried_good before after (c ∷ changes) (a ∷ answers) (next, first, rest) good = carried_good next after changes answers rest (first.stays_good good)

  -- and what they save is what the price falls by
  pub carried_even : (before after : Sheet) (changes : List Change) (answers : List (Result ℕ EditFault)) → CarriedOut task before changes answers after → sum_by (book_prices task) (actions before) ≡ sum_by (book_prices task) (actions after) + sum_by saved answers
  carried_even before after [] [] same = rw same (omega arith)
  carried_even before after [] (a ∷ answers) h = absurd h
  carried_even before after (c ∷ changes) [] h = absurd h
  carried_even before after (c ∷ changes) (a ∷ answers) (next, first, rest) =
      let more = carried_even next after changes answers rest in
      omega (arith, first.balanced, sum_by-cons saved a answers)

module _ (task : Task) (first : Sheet) (room : List ℕ) (lines : List Line) where
  -- some of the edits are carried out, and their lines written; the reader stands behind them
  pub record Working (reader : Reader) (len : ℕ) (sheet : Sheet) (out : List ℕ) : Type 0 where
    pub front : List Change
    pub more : List Line
    pub forms : AllByRecursion Proper more
    pub left : unread reader ≡ bytes more
    pub split : changes_in lines ≡ front ++ changes_in more
    pub answers : List (Result ℕ EditFault)
    pub carried : CarriedOut task first front answers sheet
    pub put : Put (replies answers) room 0 len out

  pub work_begins : (reader : Reader) → AllByRecursion Proper lines → unread reader ≡ bytes lines → Working reader 0 first room
  work_begins reader forms e = record { front = []; more = lines; forms = forms; left = e; split = refl; answers = []; carried = refl; put = record { place = refl; bytes = refl } }

  -- one edit is read and carried out, and its text is the line for its answer
  module _ (fits : AllByRecursion ChangeFits (changes_in lines)) (reader reader' : Reader) (len : ℕ) (before after : Sheet) (out : List ℕ) (w : Working reader len before out)
      (e : Edit) (reads : (left : List Line) → AllByRecursion Proper left → unread reader ≡ bytes left → NextEdit left e reader')
      (answer : Result ℕ EditFault) (carries : (change : Change) → ProperChange change → ChangeFits change → EditSays e change → Applies (book_prices task) task before change answer after)
      (text : List ℕ) (is : text ≡ answer_text answer) where
    next : NextEdit w.more e reader'
    next = reads w.more w.forms w.left

    split_more : changes_in lines ≡ (w.front ++ next.change ∷ []) ++ changes_in next.more
    split_more = w.split ∙ ap (λ (l : List Change). w.front ++ l) next.changes ∙ sym (append_assoc w.front (next.change ∷ []) (changes_in next.more))

    carried : CarriedOut task first (w.front ++ next.change ∷ []) (w.answers ++ answer ∷ []) after
    carried =
        let fit = (all_parts ChangeFits w.front (next.change ∷ []) (all_parts ChangeFits (w.front ++ next.change ∷ []) (changes_in next.more) (subst (AllByRecursion ChangeFits) split_more fits)).0).1.0 in
        carried_more task first before after w.front w.answers next.change answer w.carried (carries next.change next.proper fit next.says)

    pub works_on : (len' : ℕ) (out' : List ℕ) → Put text out len len' out' → Working reader' len' after out'
    works_on len' out' put = record {
      front = w.front ++ next.change ∷ [];
      more = next.more;
      forms = next.forms;
      left = next.left;
      split = split_more;
      answers = w.answers ++ answer ∷ [];
      carried = carried;
      put = subst (λ (t : List ℕ). Put t room 0 len' out') (ap (λ (l : List ℕ). replies w.answers ++ l) is ∙ flat_map_more answer_text [] w.answers answer) (put_more (omega arith) w.put put);
    }

    pub no_room : length room < len + length text → Outgrown task first (changes_in lines) room after out
    no_room short = record {
      front = w.front ++ next.change ∷ [];
      more = changes_in next.more;
      split = split_more;
      answers = w.answers;
      last = answer;
      carried = carried;
      short = omega (arith, w.put.place, ap length is, length-append (replies w.answers) (answer_text answer));
      wrote = w.put.bytes ∙ ap (λ n. replies w.answers ++ drop n room) (w.put.place ∙ omega arith);
    }
