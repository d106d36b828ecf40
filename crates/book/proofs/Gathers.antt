-- The week that lines bring together, one line after another.
use Rattle.std.proofs.Common.{◌≡◌, ℕ, List, [], ◌∷◌, ◌++◌, map, fold, sym, refl, ap, ◌∙◌, append_assoc, append-nil}
use Rattle.std.proofs.lemmas.List.Sums.{fold-append}
use Rattle.book.specs.Joining.{with_line}
use Rattle.orders.specs.Changes.{Change}
use Rattle.records.specs.Lines.{Deed, Line}
use Rattle.records.specs.Lines.Line.{fact, act, step, edit}
use Rattle.book.specs.Weeks.{Week, no_week, said}

abbrev pub gathered : List Line → Week
gathered ls = fold with_line no_week ls

-- lines of one kind add to one list, and change nothing else
pub with_facts : (w : Week) (xs : List (List ℕ)) → fold with_line w (map fact xs) ≡ record w { facts = w.facts ++ xs }
with_facts w [] = rw append-nil
with_facts w (x ∷ xs) = with_facts (with_line w (fact x)) xs ∙ rw append_assoc

pub with_acts : (w : Week) (xs : List Deed) → fold with_line w (map act xs) ≡ record w { deeds = w.deeds ++ xs }
with_acts w [] = rw append-nil
with_acts w (x ∷ xs) = with_acts (with_line w (act x)) xs ∙ rw append_assoc

with_steps : (w : Week) (xs : List ℕ) → fold with_line w (map step xs) ≡ record w { steps = w.steps ++ xs }
with_steps w [] = rw append-nil
with_steps w (x ∷ xs) = with_steps (with_line w (step x)) xs ∙ rw append_assoc

with_edits : (w : Week) (xs : List Change) → fold with_line w (map edit xs) ≡ record w { changes = w.changes ++ xs }
with_edits w [] = rw append-nil
with_edits w (x ∷ xs) = with_edits (with_line w (edit x)) xs ∙ rw append_assoc

-- a week's lines bring that week together
pub gathered_said : (w : Week) → gathered (said w) ≡ w
gathered_said w =
    rw (fold-append with_line no_week (map fact w.facts), with_facts no_week w.facts, fold-append with_line _ (map act w.deeds), with_acts _ w.deeds, fold-append with_line _ (map step w.steps), with_steps _ w.steps, with_edits _ w.changes) refl

-- so a week is known by its lines
pub same_week : (v w : Week) → said v ≡ said w → v ≡ w
same_week v w e = sym (gathered_said v) ∙ ap gathered e ∙ gathered_said w
