-- Rows of 128 positions have room for all ties and blocks of an outline.
use Rattle.std.proofs.Common.{◌≡◌, ℕ, ◌<◌, ◌≤◌, Bool, true, false, List, length, refl, ◌∙◌, arith}
use Rattle.shaping.proofs.Outlines.{outlines_same}
use Rattle.orders.specs.Sheets.{Outline, Rules}
use Rattle.sets.specs.Contents.{contents}
use Rattle.sets.specs.declared.bits.BitSet.{BitSet}
use Rattle.sets.specs.declared.list.ArrayVec.{ArrayVec}
use Rattle.sheet.specs.Rows.{in_row, outlined}

-- nothing is told of a pair past the room, and nothing is true of it
kept : (p q : Bool) (x y : ℕ) → (p ≡ true → (x < 128) × (y < 128)) → (q ≡ true → (x < 128) × (y < 128)) → (x < 128 → y < 128 → p ≡ q) → p ≡ q
kept true q x y f g h = let l = f refl in h l.0 l.1
kept false true x y f g h = let l = g refl in h l.0 l.1
kept false false x y f g h = refl

-- rows of 128 by 128 that have the pairs of test
pub record Rows (rows : List (BitSet 2)) (test : ℕ → ℕ → Bool) : Type 0 where
  pub told : (x y : ℕ) → x < 128 → y < 128 → in_row rows x y ≡ test x y
  pub room : (x y : ℕ) → in_row rows x y ≡ true → (x < 128) × (y < 128)

-- what `rows_of` says, where each answer is the test's
pub rows_told : (Gives : ℕ → ℕ → Bool → Type 0) (rows : List (BitSet 2)) (test : ℕ → ℕ → Bool) → ((x y : ℕ) → x < 128 → y < 128 → (b : Bool) × Gives x y b × (in_row rows x y ≡ b)) → ((x y : ℕ) → in_row rows x y ≡ true → (x < 128) × (y < 128)) → ((x y : ℕ) (b : Bool) → Gives x y b → b ≡ test x y) → Rows rows test
rows_told Gives rows test gave room says = record { told = λ x y k l. let t = gave x y k l in t.2 ∙ says x y t.0 t.1; room = room }

module _ (t : Outline) (rules : Rules t) (few : t.size ≤ 128) (steps : ArrayVec ℕ 128) (size : length (contents steps) ≡ t.size) (behind blocks : List (BitSet 2)) (ties : Rows behind t.tied) (ends : Rows blocks t.block) where
  all_ties : (x y : ℕ) → in_row behind x y ≡ t.tied x y
  all_ties x y = kept _ _ x y (ties.room x y) (λ e. let h = rules.forward x y e in (omega arith, omega arith)) (ties.told x y)

  all_blocks : (x y : ℕ) → in_row blocks x y ≡ t.block x y
  all_blocks x y = kept _ _ x y (ends.room x y) (λ e. let h = rules.proper x y e in (omega arith, omega arith)) (ends.told x y)

  pub kept_outline : outlined steps behind blocks ≡ t
  kept_outline = outlines_same (outlined steps behind blocks) t size all_ties all_blocks
