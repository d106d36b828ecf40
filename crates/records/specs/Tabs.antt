-- Fields of a line are parted by a tab.
use Rattle.std.specs.Prelude.{◌≡◌, ℕ, List, ◌∷◌, ◌++◌, ◌⊎◌, Ok, Err, Result, MatchResult}
use Rattle.std.specs.Borrow.{Bor}
use Rattle.text.specs.Fields.{Cut, Lacks}
use Rattle.text.specs.declared.fault.FieldFault.{FieldFault}

abbrev pub ◌·◌ : List ℕ → List ℕ → List ℕ
a · b = a ++ 9 ∷ b

infixr 55 ◌·◌
-- what comes of the first field of bs, where `Reads front r` says what may come of the field's own bytes; with no tab it is the fault
pub record FieldRead {T : Type 0} (Reads : Bor (List ℕ) → Result T FieldFault → Type 0) (fault : FieldFault) (bs : List ℕ) (r : Result (T × Bor (List ℕ)) FieldFault) : Type 0 where
  pub comes : MatchResult r
      (λ p. (front : Bor (List ℕ)) × Cut 9 bs front.now p.1.now × Reads front (Ok p.0))
      (λ e. (Lacks 9 bs × (e ≡ fault)) ⊎ ((front : Bor (List ℕ)) × (rest : List ℕ) × Cut 9 bs front.now rest × Reads front (Err e)))
