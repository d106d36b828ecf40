-- The table: small tasks and sheets, and what the rules say of each.
use Rattle.std.specs.Prelude.{ℕ, List, [], ◌∷◌}
use Rattle.std.specs.List.{range_with_len, AllByRecursion}
use Rattle.orders.specs.Changes.{Change}
use Rattle.orders.specs.Changes.Change.{swap, group, ungroup, loosen, replace}
use Rattle.smallsheets.specs.Rows.{Holds, Row}
use Rattle.smallsheets.specs.Rows.Answer.{accepted, refused}
use Rattle.smallsheets.specs.Rows.Row.{check, edit, lay, not_laid, runs, taken, takes}
use Rattle.smallsheets.specs.Small.{SmallAction, SmallSheet, SmallTask}
use Rattle.smallsheets.specs.Small.SmallTariff.{book, touch}

-- The week: two discs, to be captured in one drive. The facts are: 0 drive empty, 1 disc 1 in, 2 disc 2 in, 3 disc 1 captured, 4 disc 2 captured.
-- The actions are insert, capture and eject of disc 1 (0, 1, 2) and of disc 2 (3, 4, 5), and a quick capture of disc 1 (6).
abbrev insert : ℕ → SmallAction
insert disc = record { price = 20; needs = 0 ∷ []; adds = disc ∷ []; deletes = 0 ∷ [] }

abbrev capture : ℕ → ℕ → ℕ → SmallAction
capture price disc captured = record { price = price; needs = disc ∷ []; adds = captured ∷ []; deletes = [] }

abbrev eject : ℕ → SmallAction
eject disc = record { price = 10; needs = disc ∷ []; adds = 0 ∷ []; deletes = disc ∷ [] }

abbrev week : SmallTask
week = record {
  actions = insert 1 ∷ capture 300 1 3 ∷ eject 1 ∷ insert 2 ∷ capture 300 2 4 ∷ eject 2 ∷ capture 240 1 3 ∷ [];
  start = 0 ∷ [];
  goal = 3 ∷ 4 ∷ [];
}

abbrev sheet_of : List ℕ → List (ℕ × ℕ) → List (ℕ × ℕ) → SmallSheet
sheet_of actions ties blocks = record { actions = actions; ties = ties; blocks = blocks }

-- the ties of five and of six steps in a row
abbrev five_in_a_row : List (ℕ × ℕ)
five_in_a_row = (0, 1) ∷ (0, 2) ∷ (0, 3) ∷ (0, 4) ∷ (1, 2) ∷ (1, 3) ∷ (1, 4) ∷ (2, 3) ∷ (2, 4) ∷ (3, 4) ∷ []

abbrev six_in_a_row : List (ℕ × ℕ)
six_in_a_row = (0, 5) ∷ (1, 5) ∷ (2, 5) ∷ (3, 5) ∷ (4, 5) ∷ five_in_a_row

-- the ties of six steps of which each three are in a row
abbrev three_and_three : List (ℕ × ℕ)
three_and_three = (0, 1) ∷ (0, 2) ∷ (1, 2) ∷ (3, 4) ∷ (3, 5) ∷ (4, 5) ∷ []

abbrev both_discs : List ℕ
both_discs = 0 ∷ 1 ∷ 2 ∷ 3 ∷ 4 ∷ 5 ∷ []

-- one step behind the other, with those blocks
abbrev laid : List (ℕ × ℕ) → SmallSheet
laid blocks = sheet_of both_discs six_in_a_row blocks

-- two blocks of three steps that are free of each other
abbrev pair_of : List ℕ → SmallSheet
pair_of actions = sheet_of actions three_and_three ((0, 2) ∷ (3, 5) ∷ [])

abbrev paired_discs : SmallSheet
paired_discs = pair_of both_discs

-- the same without the blocks
abbrev loose_discs : SmallSheet
loose_discs = sheet_of both_discs three_and_three []

-- the week without the last step: disc 2 is never ejected
abbrev left_in : List (ℕ × ℕ) → SmallSheet
left_in blocks = sheet_of (0 ∷ 1 ∷ 2 ∷ 3 ∷ 4 ∷ []) five_in_a_row blocks

-- One fact: action 0 takes it down, 1 puts it up and 2 needs it.
abbrev lamp : SmallTask
lamp = record {
  actions =
      record { price = 1; needs = []; adds = []; deletes = 0 ∷ [] }
      ∷ record { price = 1; needs = []; adds = 0 ∷ []; deletes = [] }
      ∷ record { price = 1; needs = 0 ∷ []; adds = []; deletes = [] }
      ∷ [];
  start = [];
  goal = [];
}

abbrev down_up_twice : List ℕ
down_up_twice = 0 ∷ 1 ∷ 0 ∷ 1 ∷ 2 ∷ []

abbrev lamp_sheet : List (ℕ × ℕ) → SmallSheet
lamp_sheet ties = sheet_of down_up_twice ties []

-- the ties within each pair of down and up, and those to the step that needs the fact
abbrev within_pairs : List (ℕ × ℕ)
within_pairs = (0, 1) ∷ (2, 3) ∷ (0, 4) ∷ (1, 4) ∷ (2, 4) ∷ (3, 4) ∷ []

-- One action that needs, deletes and adds the fact of start and goal.
abbrev renewal : SmallTask
renewal = record { actions = record { price = 1; needs = 0 ∷ []; adds = 0 ∷ []; deletes = 0 ∷ [] } ∷ []; start = 0 ∷ []; goal = 0 ∷ [] }

-- No action at all.
abbrev idle : List ℕ → SmallTask
idle goal = record { actions = []; start = 0 ∷ []; goal = goal }

-- an edit that is accepted and saves nothing, and one that is refused and leaves the sheet
abbrev accepts : SmallTask → SmallSheet → Change → SmallSheet → Row
accepts task before change after = edit task book before change (accepted 0) after

abbrev refuses : SmallTask → SmallSheet → Change → ℕ → List ℕ → Row
refuses task before change number values = edit task book before change (refused number values) before

abbrev pub table : List Row
table =
    -- no steps: what is not there at the start is not there at the end
    lay (idle (0 ∷ [])) [] (sheet_of [] [] [])
    ∷ not_laid (idle (1 ∷ [])) [] 3 (0 ∷ 1 ∷ [])
    -- what a step deletes and adds is there afterwards
    ∷ lay renewal (0 ∷ []) (sheet_of (0 ∷ []) [] [])
    -- a number that is no action, and more steps than a sheet has room for
    ∷ not_laid week (0 ∷ 7 ∷ []) 2 (7 ∷ [])
    ∷ not_laid week (range_with_len 0 129) 4 []
    -- the discs can change places once each is a block, and not before
    ∷ lay week both_discs (laid [])
    ∷ refuses week (laid []) (loosen 2 3) 3 (3 ∷ 0 ∷ [])
    ∷ refuses week (laid []) (loosen 0 2) 7 []
    ∷ accepts week (laid []) (group 0 2) (laid ((0, 2) ∷ []))
    ∷ accepts week (laid ((0, 2) ∷ [])) (group 3 5) (laid ((0, 2) ∷ (3, 5) ∷ []))
    ∷ accepts week (laid ((0, 2) ∷ (3, 5) ∷ [])) (loosen 2 3) paired_discs
    ∷ check week paired_discs (accepted 0)
    ∷ check week loose_discs (refused 3 (0 ∷ 0 ∷ []))
    ∷ runs paired_discs ((0 ∷ 1 ∷ 2 ∷ 3 ∷ 4 ∷ 5 ∷ []) ∷ (3 ∷ 4 ∷ 5 ∷ 0 ∷ 1 ∷ 2 ∷ []) ∷ [])
    -- either disc can go in; nothing can be taken while a step is; and once a disc is in, only its own capture
    ∷ takes paired_discs [] (0 ∷ 3 ∷ [])
    ∷ taken paired_discs [] 0
    ∷ takes paired_discs (0 ∷ []) (1 ∷ [])
    -- the paired discs under every edit
    ∷ refuses week paired_discs (group 2 2) 1 []
    ∷ refuses week paired_discs (group 0 2) 5 []
    ∷ refuses week paired_discs (group 1 3) 5 []
    ∷ refuses week paired_discs (ungroup 1 2) 5 []
    ∷ refuses week paired_discs (ungroup 0 2) 3 (3 ∷ 0 ∷ [])
    ∷ refuses week paired_discs (loosen 2 3) 6 []
    ∷ refuses week paired_discs (swap 6) 1 []
    ∷ refuses week paired_discs (swap 1) 6 []
    ∷ accepts week paired_discs (swap 3) (pair_of (3 ∷ 4 ∷ 5 ∷ 0 ∷ 1 ∷ 2 ∷ []))
    ∷ refuses week paired_discs (replace 0 2 []) 8 []
    ∷ refuses week paired_discs (replace 0 2 (0 ∷ 7 ∷ 2 ∷ [])) 2 (7 ∷ [])
    ∷ refuses week paired_discs (replace 0 2 (0 ∷ 6 ∷ [])) 3 (2 ∷ 0 ∷ [])
    ∷ edit week book paired_discs (replace 0 2 (0 ∷ 6 ∷ 2 ∷ [])) (accepted 60) (pair_of (0 ∷ 6 ∷ 2 ∷ 3 ∷ 4 ∷ 5 ∷ []))
    -- the quick capture is cheaper by the book, and touches the drive as little as the other
    ∷ edit week book paired_discs (replace 1 1 (6 ∷ [])) (accepted 60) (pair_of (0 ∷ 6 ∷ 2 ∷ 3 ∷ 4 ∷ 5 ∷ []))
    ∷ edit week (touch (0 ∷ [])) paired_discs (replace 1 1 (6 ∷ [])) (refused 9 []) paired_discs
    -- a disc that stays in cannot go first
    ∷ lay week (0 ∷ 1 ∷ 2 ∷ 3 ∷ 4 ∷ []) (left_in [])
    ∷ accepts week (left_in []) (group 0 2) (left_in ((0, 2) ∷ []))
    ∷ accepts week (left_in ((0, 2) ∷ [])) (group 3 4) (left_in ((0, 2) ∷ (3, 4) ∷ []))
    ∷ refuses week (left_in ((0, 2) ∷ (3, 4) ∷ [])) (loosen 2 3) 3 (0 ∷ 0 ∷ [])
    -- neither step that puts the fact up is safe by itself, and in every running order one of them comes last
    ∷ lay lamp down_up_twice (lamp_sheet five_in_a_row)
    ∷ accepts lamp (lamp_sheet five_in_a_row) (loosen 1 2) (lamp_sheet ((0, 2) ∷ (0, 3) ∷ (1, 3) ∷ within_pairs))
    ∷ accepts lamp (lamp_sheet ((0, 2) ∷ (0, 3) ∷ (1, 3) ∷ within_pairs)) (loosen 1 3) (lamp_sheet ((0, 2) ∷ (0, 3) ∷ within_pairs))
    ∷ accepts lamp (lamp_sheet ((0, 2) ∷ (0, 3) ∷ within_pairs)) (loosen 0 2) (lamp_sheet ((0, 3) ∷ within_pairs))
    ∷ accepts lamp (lamp_sheet ((0, 3) ∷ within_pairs)) (loosen 0 3) (lamp_sheet within_pairs)
    ∷ check lamp (lamp_sheet within_pairs) (accepted 0)
    ∷ runs (lamp_sheet within_pairs)
    ((0 ∷ 1 ∷ 2 ∷ 3 ∷ 4 ∷ [])
    ∷ (0 ∷ 2 ∷ 1 ∷ 3 ∷ 4 ∷ [])
    ∷ (0 ∷ 2 ∷ 3 ∷ 1 ∷ 4 ∷ [])
    ∷ (2 ∷ 0 ∷ 1 ∷ 3 ∷ 4 ∷ [])
    ∷ (2 ∷ 0 ∷ 3 ∷ 1 ∷ 4 ∷ [])
    ∷ (2 ∷ 3 ∷ 0 ∷ 1 ∷ 4 ∷ [])
    ∷ [])
    ∷ refuses lamp (lamp_sheet within_pairs) (loosen 3 4) 3 (4 ∷ 0 ∷ [])
    ∷ []

-- every row of the table holds
abbrev pub EveryRowHolds : Type 0
EveryRowHolds = AllByRecursion Holds table
