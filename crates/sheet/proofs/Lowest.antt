-- What the test says of each place and fact decides what is wanting.
use Rattle.std.proofs.Common.{◌≡◌, ℕ, ◌<◌, ◌≤◌, true, false, ⊎_elim, arith}
use Rattle.std.proofs.lemmas.Bool.{both_ways, cases_lt}
use Rattle.std.proofs.lemmas.Bool.Decides.{nat_tests}
use Rattle.orders.proofs.Wanting.{test_decides_wanting}
use Rattle.orders.specs.Check.{missing}
use Rattle.orders.specs.Facts.{Effects, Good, Wanting, needed}
use Rattle.orders.specs.Sheets.{Outline, Rules}
use Rattle.sheet.specs.Verdicts.{LowestWanting}

module _ (s : Outline) (rules : Rules s) (e : Effects) where
  not_wanting : (p f : ℕ) → missing s e p f ≡ false → Wanting s e p f → ⊥
  not_wanting p f h w = both_ways _ h ((test_decides_wanting s rules e p f).1 w)

  pub lowest_from : (p f : ℕ) → missing s e p f ≡ true → ((q g : ℕ) → q < p → missing s e q g ≡ false) → ((g : ℕ) → g < f → missing s e p g ≡ false) → LowestWanting s e p f
  lowest_from p f h places facts = record {
    wanting = (test_decides_wanting s rules e p f).0 h;
    lowest_place = λ q g l. not_wanting q g (places q g l);
    lowest_fact = λ g l. not_wanting p g (facts g l);
  }

  -- nothing is needed past the place after the last step
  pub good_from : ((p f : ℕ) → p ≤ s.size → missing s e p f ≡ false) → Good s e
  good_from none p f w = ⊎_elim
      (λ l. absurd (both_ways (needed s e p f) (grind (arith, nat_tests)) w.0))
      (λ l. not_wanting p f (none p f l) w)
      (cases_lt s.size p)
