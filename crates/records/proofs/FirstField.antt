-- The first field of a text is one alone.
use Rattle.std.proofs.Common.{◌≡◌, ℕ, ◌<◌, List, inl, inr, Ok, Err, Result, Bor, decimal, sym, ◌∙◌, arith}
use Rattle.text.specs.Readers.{Exactly}
use Rattle.text.specs.declared.fault.FieldFault.{FieldFault}
use Rattle.text.specs.Fields.{Lacks, Cut, IsName, Small}
use Rattle.text.proofs.Cuts.{same_cut, no_cut}
use Rattle.text.proofs.Lists.{list_lacks}
use Rattle.text.proofs.Numerals.{decimal_lacks, name_lacks}
use Rattle.records.specs.Lines.{IsSetText}
use Rattle.records.specs.Tabs.{◌·◌, FieldRead}

pub no_field : (bs f m : List ℕ) → Lacks 9 bs → bs ≡ f · m → ⊥
no_field bs f m l e = no_cut 9 f m (rw e at l)

pub same_field : (bs front rest f m : List ℕ) → Cut 9 bs front rest → Lacks 9 f → bs ≡ f · m → (front ≡ f) × (rest ≡ m)
same_field bs front rest f m c l e = same_cut 9 front f rest m c.1 l (sym c.0 ∙ e)

-- where no text of a field has a tab, and what reads the field's own bytes is exact, so is what reads it up to its tab
pub exact_field : {T A : Type 0} (plain : T → A) (fault : FieldFault) (Is : A → Type 0) (written : A → List ℕ) → ((a : A) → Is a → Lacks 9 (written a)) → (Reads : Bor (List ℕ) → Result T FieldFault → Type 0)
    → (bs : List ℕ) (r : Result (T × Bor (List ℕ)) FieldFault) → FieldRead Reads fault bs r → ((front : Bor (List ℕ)) (r : Result T FieldFault) → Reads front r → Exactly r plain fault (λ a. Is a × (front.now ≡ written a)))
    → Exactly {A = A × List ℕ} r (λ p. (plain p.0, p.1.now)) fault (λ q. Is q.0 × (bs ≡ written q.0 · q.1))
exact_field plain fault Is written tabless Reads bs (Ok p) f tells =
    let read = f.comes in
    let is = tells read.0 (Ok p.0) read.2 in
    (is.0, cc (read.1.0, is.1))
exact_field plain fault Is written tabless Reads bs (Err e) f tells = elim f.comes [
  | inl none ↦ (none.1, λ q h. no_field bs (written q.0) q.1 none.0 h.1)
  | inr read ↦
      let none = tells read.0 (Err e) read.3 in
      (none.0, λ q h. none.1 q.0 (h.0, (same_field bs read.0.now read.1 (written q.0) q.1 read.2 (tabless q.0 h.0) h.1).0))
]

-- the bytes themselves, said as a field's own text
pub own_text : (fault : FieldFault) (Is : List ℕ → Type 0) (front : List ℕ) (r : Result (Bor (List ℕ)) FieldFault) → Exactly r (λ s. s.now) fault (λ bs. (bs ≡ front) × Is bs) → Exactly r (λ s. s.now) fault (λ bs. Is bs × (front ≡ bs))
own_text fault Is front (Ok s) is = (is.1, sym is.0)
own_text fault Is front (Err e) none = (none.0, λ bs h. none.1 bs (sym h.1, h.0))

pub number_lacks : (c n : ℕ) → c < 45 → Small n → Lacks c (decimal n)
number_lacks c n h small = decimal_lacks c n (λ digit. omega arith) small

pub set_lacks : (c : ℕ) (bs : List ℕ) → c < 44 → IsSetText bs → Lacks c bs
set_lacks c bs h (set, (small, _), e) = rw e (list_lacks c set (λ mark. omega arith) small)

-- two readings of a text agree on its first field and on what is behind it
past : (bs f m f' m' : List ℕ) → Lacks 9 f → Lacks 9 f' → bs ≡ f · m → bs ≡ f' · m' → (f ≡ f') × (m ≡ m')
past bs f m f' m' l l' e e' = same_cut 9 f f' m m' l l' (sym e ∙ e')

pub past_name : (bs f m f' m' : List ℕ) → IsName f → IsName f' → bs ≡ f · m → bs ≡ f' · m' → (f ≡ f') × (m ≡ m')
past_name bs f m f' m' n n' = past bs f m f' m' (name_lacks 9 f (λ p. omega arith) n) (name_lacks 9 f' (λ p. omega arith) n')

pub past_number : (bs : List ℕ) (a : ℕ) (m : List ℕ) (b : ℕ) (m' : List ℕ) → Small a → Small b → bs ≡ decimal a · m → bs ≡ decimal b · m' → (decimal a ≡ decimal b) × (m ≡ m')
past_number bs a m b m' s t = past bs (decimal a) m (decimal b) m' (number_lacks 9 a (omega arith) s) (number_lacks 9 b (omega arith) t)

pub past_set : (bs f m f' m' : List ℕ) → IsSetText f → IsSetText f' → bs ≡ f · m → bs ≡ f' · m' → (f ≡ f') × (m ≡ m')
past_set bs f m f' m' s t = past bs f m f' m' (set_lacks 9 f (omega arith) s) (set_lacks 9 f' (omega arith) t)
