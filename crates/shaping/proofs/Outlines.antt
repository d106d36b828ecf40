-- Outlines are equal that have the same size, ties and blocks.
use Rattle.std.proofs.Common.{◌≡◌, ℕ, sym, subst}
use Rattle.orders.specs.Sheets.{Outline, Rules}

pub outlines_same : (s t : Outline) → s.size ≡ t.size → ((x y : ℕ) → s.tied x y ≡ t.tied x y) → ((a b : ℕ) → s.block a b ≡ t.block a b) → s ≡ t
outlines_same s t e f g = λ i. record { size = e i; tied = λ x y. f x y i; block = λ a b. g a b i }

pub rules_kept : (s t : Outline) → s ≡ t → Rules t → ∥ Rules s ∥₁
rules_kept s t e rules = ∣ subst Rules (sym e) rules ∣₁
