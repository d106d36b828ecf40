-- The program's output, as texts: lists of bytes.
use Rattle.std.specs.Prelude.{ℕ, ◌+◌, List, [], ◌∷◌, ◌++◌, codes, decimal}
use Rattle.std.specs.List.{flat_map}
use Rattle.lines.specs.declared.answer.Reply.{Reply}
use Rattle.lines.specs.declared.answer.Reply.TheVariants.{Bad, Unlaid, Done, No, NoAction, NoFact}

-- a number behind a tab
abbrev pub field : ℕ → List ℕ
field n = 9 ∷ decimal n

-- a line: a word, the numbers, each behind a tab, and the line end
unfoldable pub line_text : List ℕ → List ℕ → List ℕ
line_text word numbers = word ++ (flat_map field numbers ++ (10 ∷ []))

-- what a plan costs
abbrev pub price_line : ℕ → List ℕ
price_line n = line_text (codes "price") (n ∷ [])

-- the action at a position of a plan
abbrev pub step_line : ℕ → ℕ → List ℕ
step_line position action = line_text (codes "step") (position ∷ action ∷ [])

-- the lines of the actions, the first at position k
abbrev pub steps_from : ℕ → List ℕ → List ℕ
steps_from k [] = []
steps_from k (a ∷ more) = step_line k a ++ steps_from (k + 1) more

-- a plan's listing: its price, then its steps
abbrev pub listing_text : ℕ → List ℕ → List ℕ
listing_text price steps = price_line price ++ steps_from 0 steps

-- what a reply says
abbrev pub reply_text : Reply → List ℕ
reply_text (Bad number line) = line_text (codes "bad") (number ∷ line ∷ [])
reply_text (Unlaid place fact) = line_text (codes "unlaid") (3 ∷ place ∷ fact ∷ [])
reply_text (Done saving) = line_text (codes "done") (saving ∷ [])
reply_text (No number) = line_text (codes "no") (number ∷ [])
reply_text (NoAction action) = line_text (codes "no") (2 ∷ action ∷ [])
reply_text (NoFact place fact) = line_text (codes "no") (3 ∷ place ∷ fact ∷ [])
