-- The text of a week that fits is not refused, and no other week has it.
use Rattle.std.proofs.Common.{◌≡◌, ℕ, ◌⊎◌, List, [], ◌∷◌, ◌++◌, length, Ok, Err, Result, sym, refl, ap, ◌∙◌, subst, ⊎_elim, append_assoc, append-nil, arith, length-append}
use Rattle.std.specs.List.{AllByRecursion}
use Rattle.sets.specs.declared.list.ArrayVec.{ArrayVec}
use Rattle.task.specs.declared.tasks.Task.{Task}
use Rattle.records.specs.Lines.{Line, Proper, text}
use Rattle.book.specs.Loading.{FirstBad, Loaded, Loads, NoForm, OutOfTurn, Refused, RoundTrip, Short, Unfinished}
use Rattle.book.specs.Weeks.{Fits, Week, bytes, said}
use Rattle.book.specs.declared.fault.LoadFault.{LoadFault}
use Rattle.book.specs.declared.fault.LoadFault.TheVariants.{TooLong, Form, Turn}
use Rattle.book.proofs.Gathers.{same_week}
use Rattle.text.proofs.Cuts.{same_cut}
use Rattle.records.proofs.SameText.{same_line}
use Rattle.records.proofs.Spelling.{text_lacks}
use Rattle.book.proofs.Turns.{all_parts, begins_sound}

-- what begins with the text of lines has these lines at its front
same_front : (front ls : List Line) (rest : List ℕ) → AllByRecursion Proper front → AllByRecursion Proper ls → bytes front ++ rest ≡ bytes ls → (more : List Line) × (ls ≡ front ++ more) × (rest ≡ bytes more)
same_front [] ls rest p q e = (ls, refl, e)
same_front (f ∷ front) [] rest p q e =
    absurd (omega (arith, ap length e, length-append (text f ++ 10 ∷ bytes front) rest, length-append (text f) (10 ∷ bytes front)))
same_front (f ∷ front) (l ∷ ls) rest p q e =
    let split = same_cut 10 (text f) (text l) (bytes front ++ rest) (bytes ls) (text_lacks f p.0) (text_lacks l q.0) (sym (append_assoc (text f) (10 ∷ bytes front) rest) ∙ e) in
    let first = same_line f l p.0 q.0 split.0 in
    let r = same_front front ls rest p.1 q.1 split.1 in
    (r.0, ap (λ t. l ∷ t) r.1 ∙ ap (λ x. x ∷ (front ++ r.0)) (sym first), r.2)

-- no bytes are no lines
none : (more : List Line) → [] ≡ bytes more → more ≡ []
none [] e = refl
none (l ∷ more) e = absurd (omega (arith, ap length e, length-append (text l) (10 ∷ bytes more)))

pub same_book : (v w : Week) → Fits v → Fits w → bytes (said v) ≡ bytes (said w) → v ≡ w
same_book v w f g e =
    let r = same_front (said v) (said w) [] f.forms g.forms (append-nil (bytes (said v)) ∙ e) in
    same_week v w (sym (r.1 ∙ ap (λ more. said v ++ more) (none r.0 r.2) ∙ append-nil (said v)))

-- the lines before the one at fault are the week's first, and the rest of the book is the week's rest
module _ (w : Week) (fits : Fits w) (book : List ℕ) (is : book ≡ bytes (said w)) where
  week_rest : {Bad : List Line → List ℕ → Type 0} {line : ℕ} (b : FirstBad Bad book line) → (more : List Line) × (said w ≡ b.front ++ more) × (b.rest ≡ bytes more)
  week_rest b = same_front b.front (said w) b.rest (begins_sound b.front b.begins).1 fits.forms (sym b.cut ∙ is)

  rest_proper : (front more : List Line) → said w ≡ front ++ more → AllByRecursion Proper more
  rest_proper front more e = (all_parts Proper front more (rw e at fits.forms)).1

  no_form : {line : ℕ} → FirstBad NoForm book line → ⊥
  no_form b = go (week_rest b).0 (week_rest b).1 (week_rest b).2
    where
      go : (more : List Line) → said w ≡ b.front ++ more → b.rest ≡ bytes more → ⊥
      go [] s e = omega (arith, b.bad.0, ap length e)
      go (l ∷ more) s e = b.bad.1 l (bytes more) (rest_proper b.front (l ∷ more) s).0 e

  no_turn : {line : ℕ} → FirstBad (λ front rest. OutOfTurn front rest ⊎ Unfinished front rest) book line → ⊥
  no_turn b = go (week_rest b).0 (week_rest b).1 (week_rest b).2
    where
      go : (more : List Line) → said w ≡ b.front ++ more → b.rest ≡ bytes more → ⊥
      go more s e = ⊎_elim
          (λ o.
          let r = same_front (o.0 ∷ []) more o.1 (o.2, tt) (rest_proper b.front more s) (append_assoc (text o.0) (10 ∷ []) o.1 ∙ sym o.3 ∙ e) in
          o.4 (r.0, (w, fits, s ∙ ap (λ ls. b.front ++ ls) r.1 ∙ sym (append_assoc b.front (o.0 ∷ []) r.0))))
          (λ u. u.1 (w, fits, s ∙ ap (λ ls. b.front ++ ls) (none more (sym u.0 ∙ e)) ∙ append-nil b.front))
          b.bad

  pub not_refused : (e : LoadFault) → Short book → Refused book e → ⊥
  not_refused TooLong short r = omega arith
  not_refused (Form at) short r = no_form r.1
  not_refused (Turn at) short r = no_turn r.1

pub round_trip : (book : List ℕ) (r : Result (Unit {0}) LoadFault) (task : Task) (plan : ArrayVec ℕ 128) → Loads book r task plan → RoundTrip book r task plan
round_trip book (Ok _) task plan (short, (v, fits, is, loaded)) w fit same _ =
    (refl, subst (λ u. Loaded u task plan) (same_book v w fits fit (sym is ∙ same)) loaded)
round_trip book (Err e) task plan (refused, _) w fit same short = absurd (not_refused w fit book same e short refused)
