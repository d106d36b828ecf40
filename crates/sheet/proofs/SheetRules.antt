-- Every sheet keeps the rules. Its ghost field says so of a proposition, from which they come back since each can be decided.
use Rattle.std.proofs.Common.{◌⊎◌, inl, inr, ⊎_elim}
use mathlib.Core.Bool.{Bool-set}
use mathlib.Core.HLevel.{⊥_prop}
use mathlib.Core.Logic.{∥∥₁_elim}
use native.Mathlib.Bridge.{le_prop}
use Rattle.orders.proofs.Least.{Known, known_both, known_le}
use Rattle.orders.specs.Sheets.{Outline, Rules}
use Rattle.sheet.specs.Sheets.{outline}
use Rattle.sheet.specs.declared.sheet.Sheet.{Sheet}

known_either : {A B : Type 0} → Known A → Known B → Known (A ⊎ B)
known_either (inl a) k = inl (inl a)
known_either (inr n) (inl b) = inl (inr b)
known_either (inr n) (inr m) = inr (⊎_elim n m)

stable : {A : Type 0} → Known A → ((A → ⊥) → ⊥) → A
stable (inl a) t = a
stable (inr n) t = absurd (t n)

pub rules_back : (s : Outline) → ∥ Rules s ∥₁ → Rules s
rules_back s t = record {
  forward = λ i j h. (∥∥₁_elim t le_prop (λ r. (r.forward i j h).0), ∥∥₁_elim t le_prop (λ r. (r.forward i j h).1));
  chained = λ i j k h g. ∥∥₁_elim t (Bool-set _ _) (λ r. r.chained i j k h g);
  proper = λ a b h. (∥∥₁_elim t le_prop (λ r. (r.proper a b h).0), ∥∥₁_elim t le_prop (λ r. (r.proper a b h).1));
  nested = λ a b c d h g. stable
      (known_either (known_either (known_le _ _) (known_le _ _)) (known_either (known_both (known_le _ _) (known_le _ _)) (known_both (known_le _ _) (known_le _ _))))
      (λ n. ∥∥₁_elim t ⊥_prop (λ r. n (r.nested a b c d h g)));
  before = λ a b i x y h o u v. ∥∥₁_elim t (Bool-set _ _) (λ r. r.before a b i x y h o u v);
  behind = λ a b i x y h o u v. ∥∥₁_elim t (Bool-set _ _) (λ r. r.behind a b i x y h o u v);
}

pub sheet_rules : (sheet : Sheet) → Rules (outline sheet)
sheet_rules sheet = rules_back (outline sheet) sheet.rules
