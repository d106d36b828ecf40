-- What an order of positions has, how many there are, and which keep a sheet's ties.
use Rattle.std.specs.Prelude.{ℕ, zero, suc, ◌*◌, ◌<◌, ◌==◌, List}
use Rattle.std.specs.List.{All, position_or_len}
use Rattle.sets.specs.Contents.{contents}
use Rattle.comparing.specs.declared.enumeration.Order.{Order}
use Rattle.comparing.specs.declared.model.Model.{Model}

-- its positions, first to last, as they are kept
abbrev pub positions : {P : Type 0} → Order P → List P
positions order = contents order.positions

-- the place of x, the number of places where it has none; `number` reads what a position is kept as
abbrev pub place : {P : Type 0} → (number : P → ℕ) → Order P → ℕ → ℕ
place number order x = position_or_len (λ position. number position == x) (positions order)

-- the pairs (i, j) of which i is tied before j
abbrev pub ties : Model → List (ℕ × ℕ)
ties model = contents model.ties

-- of each tie the one comes before the other
abbrev pub KeepsTies : {P : Type 0} → (number : P → ℕ) → List (ℕ × ℕ) → Order P → Type 0
KeepsTies number pairs order = All (λ (tie : ℕ × ℕ). place number order tie.0 < place number order tie.1) pairs

-- how many orders n positions have
abbrev pub factorial : ℕ → ℕ
factorial zero = 1
factorial (suc n) = suc n * factorial n
