-- A week's plan as a sheet: what its steps do, as the book writes them.
use Rattle.std.specs.Prelude.{ℕ, Bool, false, List, length, Some, None, Option}
use Rattle.std.specs.List.{slice_get}
use Rattle.std.specs.Option.{option_flatten, option_map}
use Rattle.orders.specs.Facts.{Effects}
use Rattle.orders.specs.Lists.{listed}
use Rattle.orders.specs.Sheets.{Outline}
use Rattle.sheet.specs.Verdicts.{in_a_row}
use Rattle.records.specs.Lines.{Deed}
use Rattle.book.specs.Weeks.{Week}

-- the action of the step at p, as the book writes it
abbrev pub deed_at : Week → ℕ → Option Deed
deed_at w p = option_flatten (option_map (slice_get w.deeds) (slice_get w.steps p))

-- whether that set of the action has f; there is nothing where there is no action
abbrev pub writes_fact : (Deed → List ℕ) → Option Deed → ℕ → Bool
writes_fact part None f = false
writes_fact part (Some d) f = listed (part d) f

abbrev pub week_effects : Week → Effects
week_effects w = record {
  needs = λ p. writes_fact (λ d. d.needs) (deed_at w p);
  adds = λ p. writes_fact (λ d. d.adds) (deed_at w p);
  deletes = λ p. writes_fact (λ d. d.deletes) (deed_at w p);
  start = listed w.starts;
  goal = listed w.goals;
}

-- the plan's steps, one behind the other
abbrev pub week_outline : Week → Outline
week_outline w = in_a_row (length w.steps)
