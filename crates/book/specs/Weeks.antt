-- What a whole book says: its lines in their sequence, and the bounds between them.
use Rattle.std.specs.Prelude.{◌≡◌, ℕ, ◌<◌, ◌≤◌, List, [], ◌∷◌, ◌++◌, map, length}
use Rattle.std.specs.List.{AllByRecursion}
use Rattle.orders.specs.Changes.{Change}
use Rattle.records.specs.Lines.{Deed, Line, Proper, text}
use Rattle.orders.specs.Changes.Change.{swap, group, ungroup, loosen, replace}
use Rattle.records.specs.Lines.Line.{fact, act, start, goal, step, edit}

-- what a book says: the names of its facts, its actions, start and goal, the plan, and the edits
pub record Week : Type 0 where
  pub facts : List (List ℕ)
  pub deeds : List Deed
  pub starts : List ℕ
  pub goals : List ℕ
  pub steps : List ℕ
  pub changes : List Change

-- the week of no lines
abbrev pub no_week : Week
no_week = record { facts = []; deeds = []; starts = []; goals = []; steps = []; changes = [] }

-- its lines, in the one sequence that they come in
abbrev pub said : Week → List Line
said w = map fact w.facts ++ (map act w.deeds ++ (start w.starts ∷ goal w.goals ∷ (map step w.steps ++ map edit w.changes)))

-- the bytes of lines, each ended by byte 10
abbrev pub bytes : List Line → List ℕ
bytes [] = []
bytes (l ∷ ls) = text l ++ 10 ∷ bytes ls

-- a set that names no fact but the first n
abbrev pub Known : ℕ → List ℕ → Type 0
Known n set = AllByRecursion (λ f. f < n) set

pub record DeedFits (n : ℕ) (d : Deed) : Type 0 where
  pub price : d.price ≤ 1000000
  pub needs : Known n d.needs
  pub adds : Known n d.adds
  pub deletes : Known n d.deletes

abbrev pub ChangeFits : Change → Type 0
ChangeFits (swap k) = Unit {0}
ChangeFits (group a b) = Unit {0}
ChangeFits (ungroup a b) = Unit {0}
ChangeFits (loosen i j) = Unit {0}
ChangeFits (replace a b list) = length list ≤ 128

-- the bounds of a book: every line is of its form, and names only what the book has
pub record Fits (w : Week) : Type 0 where
  pub forms : AllByRecursion Proper (said w)
  pub facts : length w.facts ≤ 64
  pub deeds : length w.deeds ≤ 128
  pub steps : length w.steps ≤ 128
  pub deed : AllByRecursion (DeedFits (length w.facts)) w.deeds
  pub starts : Known (length w.facts) w.starts
  pub goals : Known (length w.facts) w.goals
  pub step : AllByRecursion (λ a. a < length w.deeds) w.steps
  pub change : AllByRecursion ChangeFits w.changes

-- these lines are a whole book
abbrev pub Whole : List Line → Type 0
Whole ls = (w : Week) × Fits w × (said w ≡ ls)

-- a whole book begins with these lines
abbrev pub Begins : List Line → Type 0
Begins ls = (more : List Line) × Whole (ls ++ more)
