-- A book that is loaded line by line: what holds after each line, and what each way out shows.
use Rattle.std.proofs.Common.{◌≡◌, ℕ, ◌+◌, ◌<◌, ◌≤◌, ◌⊎◌, List, [], ◌∷◌, ◌++◌, length, Some, None, Ok, Err, sym, refl, ap, ◌∙◌, inl, inr, append_assoc, append-nil, arith}
use Rattle.std.proofs.lemmas.List.{length_push}
use Rattle.std.proofs.lemmas.List.Sums.{fold_push}
use Rattle.book.specs.Joining.{Holds, Joins, with_line}
use Rattle.records.specs.Lines.{Line, Proper, text}
use Rattle.book.specs.Loading.{Accepted, FirstBad, NoForm, OutOfTurn, Short, Unfinished}
use Rattle.records.specs.Reading.{Next, unread}
use Rattle.records.specs.Records.{Says}
use Rattle.book.specs.Stages.{rank_of}
use Rattle.book.specs.Weeks.{bytes, no_week}
use Rattle.records.specs.declared.fault.RecordFault.{RecordFault}
use Rattle.book.specs.declared.fault.TurnFault.{TurnFault}
use Rattle.book.specs.declared.loader.Loader.{Loader}
use Rattle.records.specs.declared.reader.Reader.{Reader}
use Rattle.records.specs.declared.record.Record.{Record}
use Rattle.book.proofs.Gathers.{gathered, gathered_said}
use Rattle.book.proofs.Turns.{Sound, may_follow, sound_begins, sound_push, stage_after, stage-append, whole_ends, whole_from_sound}

bytes_push : (ls : List Line) (l : Line) (rest : List ℕ) → bytes (ls ++ l ∷ []) ++ rest ≡ bytes ls ++ (text l ++ 10 ∷ rest)
bytes_push [] l rest = append_assoc (text l) (10 ∷ []) rest
bytes_push (k ∷ ls) l rest =
    append_assoc (text k) (10 ∷ bytes (ls ++ l ∷ [])) rest ∙ ap (λ bs. text k ++ 10 ∷ bs) (bytes_push ls l rest) ∙ sym (append_assoc (text k) (10 ∷ bytes ls) (text l ++ 10 ∷ rest))

pub record Progress (book : List ℕ) (reader : Reader) (line : ℕ) (loader : Loader) : Type 0 where
  pub front : List Line
  pub cut : book ≡ bytes front ++ unread reader
  pub count : reader.lines ≡ length front
  pub next : line ≡ reader.lines + 1
  pub sound : Sound front
  pub holds : Holds (gathered front) loader
  pub at : rank_of loader.stage ≡ stage_after 0 front

pub begin : (book : List ℕ) (reader : Reader) (line : ℕ) (loader : Loader) → unread reader ≡ book → reader.lines ≡ 0 → line ≡ reader.lines + 1 → Holds no_week loader → rank_of loader.stage ≡ 0 → Progress book reader line loader
begin book reader line loader u z n h s = record { front = []; cut = sym u; count = z; next = n; sound = (tt, tt); holds = h; at = s }

module _ {book : List ℕ} {r : Reader} {line : ℕ} {before : Loader} (so_far : Progress book r line before) (r' : Reader) where
  bad_at : (Bad : List Line → List ℕ → Type 0) → Bad so_far.front (unread r) → FirstBad Bad book line
  bad_at Bad bad = record { front = so_far.front; rest = unread r; cut = so_far.cut; begins = sound_begins so_far.front so_far.sound; number = omega (arith, so_far.count, so_far.next); bad = bad }

  pub no_form : (e : RecordFault) → Next r (Err e) r' → FirstBad NoForm book line
  no_form e next = bad_at NoForm (next.0, next.1)

  pub unfinished : Next r (Ok None) r' → rank_of before.stage < 3 → FirstBad (λ front rest. OutOfTurn front rest ⊎ Unfinished front rest) book line
  unfinished next early = bad_at _ (inr (next.0, λ whole. omega (arith, whole_ends so_far.front whole, so_far.at)))

  pub finished : Next r (Ok None) r' → 3 ≤ rank_of before.stage → Short book → Accepted book before.task before.plan
  finished next late short =
      let w = whole_from_sound so_far.front so_far.sound (omega (arith, so_far.at)) in
      let same : gathered so_far.front ≡ w.0 = ap gathered (sym w.2) ∙ gathered_said w.0 in
      (short, (w.0, w.1, so_far.cut ∙ rw (next.0, append-nil, w.2) refl, rw same at so_far.holds))

  module _ (x : Record) (next : Next r (Ok (Some x)) r') (after : Loader) where
    pub out_of_turn : (e : TurnFault) → ((l : Line) → Proper l → Says x l → Joins before l (Err e) after) → FirstBad (λ front rest. OutOfTurn front rest ⊎ Unfinished front rest) book line
    out_of_turn e joins =
        let l = next.0 in
        let no_turn = joins l next.1 next.2 (gathered so_far.front) so_far.holds in
        bad_at _ (inl (l, unread r', next.1, next.3, λ begins. no_turn (rw so_far.at (may_follow so_far.front l begins))))

    pub in_turn : (line' : ℕ) → line' ≡ r'.lines + 1 → ((l : Line) → Proper l → Says x l → Joins before l (Ok tt) after) → Progress book r' line' after
    in_turn line' n joins =
        let l = next.0 in
        let front = so_far.front in
        let j = joins l next.1 next.2 (gathered front) so_far.holds in
        record {
          front = front ++ l ∷ [];
          cut = so_far.cut ∙ ap (λ bs. bytes front ++ bs) next.3 ∙ sym (bytes_push front l (unread r'));
          count = omega (arith, next.4, so_far.count, length_push front l);
          next = n;
          sound = sound_push front l so_far.sound next.1 (rw so_far.at at j.0);
          holds = rw (fold_push with_line no_week front l) j.1;
          at = j.2 ∙ sym (stage-append 0 front (l ∷ []));
        }
