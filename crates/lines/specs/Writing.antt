-- What it is to write a text into a buffer.
use Rattle.std.specs.Prelude.{◌≡◌, ℕ, ◌+◌, ◌<◌, ◌≤◌, List, ◌++◌, length, take, drop, Ok, Err, Option, Result, MatchOption}

-- the buffer begins with the text, and is behind it as before
abbrev pub Wrote : List ℕ → List ℕ → List ℕ → Type 0
Wrote text before after = after ≡ text ++ drop (length text) before

-- the answer of a call that writes a text: its length where the buffer has room for it, else a refusal that leaves the buffer as it was
abbrev pub Answers : {E : Type 0} → List ℕ → List ℕ → Result ℕ E → List ℕ → Type 0
Answers text before (Ok n) after = (length text ≤ length before) × (n ≡ length text) × Wrote text before after
Answers text before (Err e) after = (length before < length text) × (after ≡ before)

-- the text stands from `at` up to `next`, and all else is as before
pub record Put (text before : List ℕ) (at next : ℕ) (after : List ℕ) : Type 0 where
  pub place : next ≡ at + length text
  pub bytes : after ≡ take at before ++ (text ++ drop next before)

-- what is left of the room behind the text, or nothing where the text is longer
abbrev pub Left : List ℕ → ℕ → Option ℕ → Type 0
Left text room r = MatchOption r (room < length text) (λ left. left + length text ≡ room)
