-- The rule of sequence and bounds, one line after another: the loader's own measure. What load promises does not rest on it.
use Rattle.std.specs.Prelude.{◌≡◌, ℕ, ◌<◌, ◌≤◌, [], ◌∷◌, ◌++◌, length, Result, MatchResult}
use Rattle.sets.specs.Contents.{contents}
use Rattle.records.specs.Lines.{Line}
use Rattle.records.specs.Lines.Line.{fact, act, start, goal, step, edit}
use Rattle.book.specs.Stages.{rank_of}
use Rattle.book.specs.Tasks.{TaskOf}
use Rattle.book.specs.Weeks.{Week, Known, DeedFits, ChangeFits}
use Rattle.book.specs.declared.fault.TurnFault.{TurnFault}
use Rattle.book.specs.declared.loader.Loader.{Loader}

-- a week with one line more
abbrev pub with_line : Week → Line → Week
with_line w (fact x) = record w { facts = w.facts ++ x ∷ [] }
with_line w (act d) = record w { deeds = w.deeds ++ d ∷ [] }
with_line w (start s) = record w { starts = s }
with_line w (goal s) = record w { goals = s }
with_line w (step a) = record w { steps = w.steps ++ a ∷ [] }
with_line w (edit c) = record w { changes = w.changes ++ c ∷ [] }

-- the stage that a line leads to: 0 facts, 1 acts, 2 the start, 3 the goal and the steps, 4 the edits
abbrev pub stage : Line → ℕ
stage (fact x) = 0
stage (act d) = 1
stage (start set) = 2
stage (goal set) = 3
stage (step a) = 3
stage (edit c) = 4

-- at a stage, with the week w so far, this line may follow
abbrev pub May : ℕ → Week → Line → Type 0
May s w (fact x) = (s ≤ 0) × (length w.facts < 64)
May s w (act d) = (s ≤ 1) × (length w.deeds < 128) × DeedFits (length w.facts) d
May s w (start set) = (s ≤ 1) × Known (length w.facts) set
May s w (goal set) = (s ≡ 2) × Known (length w.facts) set
May s w (step a) = (s ≡ 3) × (length w.steps < 128) × (a < length w.deeds)
May s w (edit c) = (3 ≤ s) × ChangeFits c

-- the loader has the task and the plan of the week
abbrev pub Holds : Week → Loader → Type 0
Holds w l = TaskOf w l.task × (contents l.plan ≡ w.steps)

-- what the loader answers to a line, and what it is then
abbrev pub Joins : Loader → Line → Result (Unit {0}) TurnFault → Loader → Type 0
Joins before l r after =
    (w : Week) → Holds w before → MatchResult r
    (λ _. May (rank_of before.stage) w l × Holds (with_line w l) after × (rank_of after.stage ≡ stage l))
    (λ _. May (rank_of before.stage) w l → ⊥)
