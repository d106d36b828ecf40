-- Steps in a row keep the rules of a sheet.
use Rattle.std.proofs.Common.{◌≡◌, ℕ, ◌<◌, false, ◌&&◌, ltb, List, length, get_or, sym, subst, ⊎_elim, arith}
use Rattle.std.proofs.lemmas.List.{get_or_past}
use Rattle.std.proofs.lemmas.Bool.{cases_lt, false≢true}
use Rattle.std.proofs.lemmas.Bool.Decides.{nat_tests}
use Rattle.orders.specs.Sheets.{Rules}
use Rattle.sets.proofs.Held.{contents_fit}
use Rattle.sets.specs.Contents.{contents}
use Rattle.sets.specs.declared.bits.BitSet.{BitSet}
use Rattle.sets.specs.declared.list.ArrayVec.{ArrayVec}
use Rattle.sheet.specs.Rows.{in_row, outlined}
use Rattle.sheet.specs.Verdicts.{AllKnown, in_a_row}
use Rattle.task.specs.declared.tasks.Task.{Task}

pub row_rules : (n : ℕ) → Rules (in_a_row n)
row_rules n = record {
  forward = λ i j h. (grind (arith, nat_tests, h), grind (arith, nat_tests, h));
  chained = λ i j k h g. grind (arith, nat_tests, h, g);
  proper = λ a b h. absurd (false≢true h);
  nested = λ a b c d h. absurd (false≢true h);
  before = λ a b i x y h. absurd (false≢true h);
  behind = λ a b i x y h. absurd (false≢true h);
}

module _ (steps : ArrayVec ℕ 128) (behind blocks : List (BitSet 2)) (ties : (i j : ℕ) → in_row behind i j ≡ (ltb i j && ltb j (length (contents steps)))) (none : (a b : ℕ) → in_row blocks a b ≡ false) where
  pub laid_outline : outlined steps behind blocks ≡ in_a_row (length (contents steps))
  laid_outline = λ t. record { size = length (contents steps); tied = λ i j. ties i j t; block = λ a b. none a b t }

  pub laid_rules : Rules (outlined steps behind blocks)
  laid_rules = subst Rules (sym laid_outline) (row_rules (length (contents steps)))

-- what a task has is below 128
pub known_small : (task : Task) (numbers : List ℕ) → AllKnown task numbers → (i : ℕ) → get_or numbers i 0 < 128
known_small task numbers known i = ⊎_elim
    (λ l. omega (arith, known i l, contents_fit task.actions))
    (λ l. omega (arith, get_or_past numbers i 0 l))
    (cases_lt i (length numbers))
