-- When loosen can be made.
use Rattle.std.proofs.Common.{◌≡◌, ℕ, ◌<◌, Bool, true, false, not, ◌&&◌, ◌||◌, ltb, MatchBool, arith}
use Rattle.std.proofs.lemmas.Bool.{cases_Bool}
use Rattle.std.proofs.lemmas.Bool.Decides.{nat_tests}
use Rattle.shaping.specs.Answers.{TiedBetween}
use Rattle.orders.specs.Check.{leads, together}
use Rattle.orders.specs.Edits.{CanLoosen}
use Rattle.orders.specs.Sheets.{Outline, Rules}

-- the positions of the part of i against j, as a set has them
abbrev part_of : Outline → ℕ → ℕ → ℕ → Bool
part_of s i j x = together s x i j && ltb x s.size

-- whether the parts cover what is tied between
pub between_covered : (s : Outline) → Rules s → (i j : ℕ) → j < s.size → (parts between : ℕ → Bool) → ((x : ℕ) → parts x ≡ (part_of s i j x || part_of s j i x)) → ((x : ℕ) → between x ≡ (s.tied i x && leads s x j)) → (r : Bool) → MatchBool r ((x : ℕ) → between x ≡ true → parts x ≡ true) ((x : ℕ) × (between x ≡ true) × (parts x ≡ false)) → MatchBool (not r) (TiedBetween s i j) (CanLoosen s i j)
between_covered s rules i j l parts between p b true covered = λ x t u.
    let e = p x in
    let f = b x in
    let g = covered x in
    grind (arith, nat_tests, cases_Bool (together s x i j), cases_Bool (together s x j i))
between_covered s rules i j l parts between p b false (x, h, k) =
    let e = p x in
    let f = b x in
    let position = rules.forward i x in
    (x, grind (arith, nat_tests), grind (arith, nat_tests), grind (arith, nat_tests), grind (arith, nat_tests))
