-- Texts, part by part.
use Rattle.std.proofs.Common.{◌≡◌, ℕ, ◌+◌, ◌<◌, ◌≤◌, List, [], ◌∷◌, ◌++◌, length, get_or, drop, refl, ap, ◌∙◌, append_assoc, length-append}
use Rattle.std.specs.List.{flat_map}
use Rattle.std.proofs.lemmas.List.{at_drop_more, at_drop_all}
use Rattle.lines.specs.Text.{field, line_text, step_line, steps_from}

-- a text is a part and then the rest
pub record Parts (text part rest : List ℕ) : Type 0 where
  pub whole : text ≡ part ++ rest
  pub sizes : length text ≡ length part + length rest

pub parts : {text : List ℕ} (part rest : List ℕ) → text ≡ part ++ rest → Parts text part rest
parts part rest e = record { whole = e; sizes = ap length e ∙ length-append part rest }

-- a line from its number i on
abbrev pub line_rest : List ℕ → ℕ → List ℕ
line_rest numbers i = flat_map field (drop i numbers) ++ (10 ∷ [])

pub line_parts : (word numbers : List ℕ) → Parts (line_text word numbers) word (line_rest numbers 0)
unfolding line_text
line_parts word numbers = parts word (line_rest numbers 0) refl

pub line_more : (numbers : List ℕ) (i : ℕ) → i < length numbers → Parts (line_rest numbers i) (field (get_or numbers i 0)) (line_rest numbers (i + 1))
line_more numbers i h =
    parts (field (get_or numbers i 0)) (line_rest numbers (i + 1))
    (at_drop_more (λ ns. flat_map field ns ++ (10 ∷ [])) numbers i 0 h ∙ append_assoc (field (get_or numbers i 0)) _ _)

pub line_end : (numbers : List ℕ) (i : ℕ) → length numbers ≤ i → Parts (line_rest numbers i) (10 ∷ []) []
line_end numbers i h = parts (10 ∷ []) [] (at_drop_all (λ ns. flat_map field ns ++ (10 ∷ [])) numbers i h)

-- the step lines from position i on
abbrev pub steps_rest : List ℕ → ℕ → List ℕ
steps_rest steps i = steps_from i (drop i steps)

pub steps_more : (steps : List ℕ) (i : ℕ) → i < length steps → Parts (steps_rest steps i) (step_line i (get_or steps i 0)) (steps_rest steps (i + 1))
steps_more steps i h = parts (step_line i (get_or steps i 0)) (steps_rest steps (i + 1)) (at_drop_more (steps_from i) steps i 0 h)

pub steps_end : (steps : List ℕ) (i : ℕ) → length steps ≤ i → steps_rest steps i ≡ []
steps_end steps i h = at_drop_all (steps_from i) steps i h
