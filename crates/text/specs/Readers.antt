-- What the readers answer.
use Rattle.std.specs.Prelude.{◌≡◌, ℕ, ◌<◌, ◌↔◌, List, [], ◌∷◌, ◌++◌, length, Some, None, Ok, Err, Option, Result}
use Rattle.std.specs.List.{AllByRecursion}
use Rattle.text.specs.declared.fault.FieldFault.{FieldFault}
use Rattle.text.specs.declared.list.Entries.{Entries}
use Rattle.text.specs.Fields.{Small, commas}

-- r holds what has `Has`, or the fault where nothing has it; plain shows a result as a plain value
abbrev pub Exactly : {T A : Type 0} → Result T FieldFault → (T → A) → FieldFault → (A → Type 0) → Type 0
Exactly (Ok x) plain fault Has = Has (plain x)
Exactly {A = A} (Err e) plain fault Has = (e ≡ fault) × ((a : A) → Has a → ⊥)

-- the text that e has still to read
abbrev pub unread : Entries → Option (List ℕ)
unread e = elim e.rest [ None ↦ None | Some s ↦ Some s.now ]

-- the text that is still to be read where the numbers ns are left
abbrev pub remaining : List ℕ → Option (List ℕ)
remaining [] = None
remaining (n ∷ ns) = Some (commas (n ∷ ns))

-- ns is what is left to read of e
abbrev pub Left : Entries → List ℕ → Type 0
Left e ns = AllByRecursion Small ns × (unread e ≡ remaining ns)

-- P names just the lists that begin with done and go on with what is left of e
pub record Reads (P : List ℕ → Type 0) (done : List ℕ) (e : Entries) : Type 0 where
  pub lists : (ns : List ℕ) → P ns ↔ ((ms : List ℕ) × (ns ≡ done ++ ms) × Left e ms)

-- a comma and what stands behind it, if anything is still to be read
abbrev pub behind : Option (List ℕ) → List ℕ
behind None = []
behind (Some bs) = 44 ∷ bs

-- how many bytes are left to read of e; it falls with each number
abbrev pub bytes_left : Entries → ℕ
bytes_left e = length (behind (unread e))

-- what `next` answers at e, which is e' then
abbrev pub NextGives : Entries → Result (Option ℕ) FieldFault → Entries → Type 0
NextGives e (Ok None) e' = (e' ≡ e) × ((ns : List ℕ) → Left e ns ↔ (ns ≡ []))
NextGives e (Ok (Some n)) e' = Small n × (bytes_left e' < bytes_left e) × Reads (Left e) (n ∷ []) e'
NextGives e (Err f) e' = (f ≡ FieldFault.List) × (e' ≡ e) × ((ns : List ℕ) → Left e ns → ⊥)
