-- The laws of sets in rows.
use Rattle.std.proofs.Common.{◌≡◌, ℕ, zero, suc, ◌+◌, ◌*◌, ◌<◌, ◌≤◌, Bool, true, false, cond, eqb, List, [], ◌∷◌, length, get_or, set, replicate, sym, refl, ap, ◌∙◌, ⊎_elim, arith}
use Rattle.std.proofs.lemmas.List.{get_or-set_other, get_or-set_same}
use Rattle.std.proofs.lemmas.Bool.{cases_eq, cases_lt, false≢true}
use Rattle.std.proofs.lemmas.Bool.Decides.{nat_tests}
use Rattle.sets.proofs.Members.{member_lt}
use Rattle.sets.specs.Member.{member}
use Rattle.sets.specs.declared.bits.BitSet.{BitSet}
use Rattle.sheet.specs.Rows.{in_row}

-- one more entry that is made
pub entry_made : {T : Type 0} (Gives : ℕ → T → Type 0) (entries : List T) (i : ℕ) (x : T) → i < length entries → ((k : ℕ) → k < i → (y : T) × Gives k y × ((d : T) → get_or entries k d ≡ y)) → Gives i x → (k : ℕ) → k < i + 1 → (y : T) × Gives k y × ((d : T) → get_or (set entries i x) k d ≡ y)
entry_made Gives entries i x l before here k m = ⊎_elim
    (λ e. rw e (x, here, λ d. get_or-set_same entries i x d l))
    (λ n. let b = before k (omega arith) in (b.0, b.1, λ d. get_or-set_other entries i k x d n ∙ b.2 d))
    (cases_eq k i)

module _ {W : ℕ} where
  pub row-get_or : (rows : List (BitSet W)) (i : ℕ) (d : BitSet W) → i < length rows → (j : ℕ) → in_row rows i j ≡ member (get_or rows i d).words j
  row-get_or [] i d l j = absurd (omega arith)
  row-get_or (r ∷ rows) zero d l j = refl
  row-get_or (r ∷ rows) (suc i) d l j = row-get_or rows i d (omega arith) j

  -- a row, or a set with nothing in its place
  pub row_or : (rows : List (BitSet W)) (i : ℕ) (r : BitSet W) → ((j : ℕ) → member r.words j ≡ false) → (j : ℕ) → member (get_or rows i r).words j ≡ in_row rows i j
  row_or [] i r e j = e j
  row_or (s ∷ rows) zero r e j = refl
  row_or (s ∷ rows) (suc i) r e j = row_or rows i r e j

  pub row_past : (rows : List (BitSet W)) (i : ℕ) → length rows ≤ i → (j : ℕ) → in_row rows i j ≡ false
  row_past [] i l j = refl
  row_past (r ∷ rows) zero l j = absurd (omega arith)
  row_past (r ∷ rows) (suc i) l j = row_past rows i (omega arith) j

  pub row-set_same : (rows : List (BitSet W)) (i : ℕ) (r : BitSet W) → i < length rows → (j : ℕ) → in_row (set rows i r) i j ≡ member r.words j
  row-set_same [] i r l j = absurd (omega arith)
  row-set_same (s ∷ rows) zero r l j = refl
  row-set_same (s ∷ rows) (suc i) r l j = row-set_same rows i r (omega arith) j

  pub row-set_other : (rows : List (BitSet W)) (i k : ℕ) (r : BitSet W) → (k ≡ i → ⊥) → (j : ℕ) → in_row (set rows i r) k j ≡ in_row rows k j
  row-set_other [] i k r n j = refl
  row-set_other (s ∷ rows) zero zero r n j = absurd (n refl)
  row-set_other (s ∷ rows) zero (suc k) r n j = refl
  row-set_other (s ∷ rows) (suc i) zero r n j = refl
  row-set_other (s ∷ rows) (suc i) (suc k) r n j = row-set_other rows i k r (λ e. n (ap suc e)) j

  -- rows of empty sets have nothing
  pub row_empty : (n : ℕ) (r : BitSet W) → ((j : ℕ) → member r.words j ≡ false) → (i j : ℕ) → in_row (replicate n r) i j ≡ false
  row_empty zero r e i j = refl
  row_empty (suc n) r e zero j = e j
  row_empty (suc n) r e (suc i) j = row_empty n r e i j

  pub row_lt : (rows : List (BitSet W)) (i j : ℕ) → in_row rows i j ≡ true → j < 64 * W
  row_lt [] i j e = absurd (false≢true e)
  row_lt (r ∷ rows) zero j e = member_lt r j e
  row_lt (r ∷ rows) (suc i) j e = row_lt rows i j e

  -- the rows of entries that are made
  pub rows_made : (Gives : ℕ → BitSet W → Type 0) (rows : List (BitSet W)) (n : ℕ) → n ≤ length rows → ((i : ℕ) → i < n → (s : BitSet W) × Gives i s × ((d : BitSet W) → get_or rows i d ≡ s)) → (i : ℕ) → i < n → (s : BitSet W) × Gives i s × ((j : ℕ) → in_row rows i j ≡ member s.words j)
  rows_made Gives rows n size made i l =
      let m = made i l in (m.0, m.1, λ j. row-get_or rows i m.0 (omega arith) j ∙ ap (λ (s : BitSet W). member s.words j) (m.2 m.0))

  -- and those behind them, in each of which stands one set that has nothing
  pub rows_behind : (rows : List (BitSet W)) (n : ℕ) (r : BitSet W) → ((i : ℕ) → n ≤ i → i < length rows → (d : BitSet W) → get_or rows i d ≡ r) → ((j : ℕ) → member r.words j ≡ false) → (i j : ℕ) → n ≤ i → in_row rows i j ≡ false
  rows_behind rows n r rest nothing i j l = ⊎_elim
      (λ m. row-get_or rows i r m j ∙ ap (λ (s : BitSet W). member s.words j) (rest i l m r) ∙ nothing j)
      (λ m. row_past rows i m j)
      (cases_lt i (length rows))

  -- rows that are made as a test says, where it wants nothing past them
  pub made_is : (Gives : ℕ → BitSet W → Type 0) (test : ℕ → ℕ → Bool) (rows : List (BitSet W)) (n : ℕ) → ((i : ℕ) → i < n → (s : BitSet W) × Gives i s × ((j : ℕ) → in_row rows i j ≡ member s.words j)) → ((i j : ℕ) → n ≤ i → in_row rows i j ≡ false) → ((i : ℕ) (s : BitSet W) → i < n → Gives i s → (j : ℕ) → member s.words j ≡ test i j) → ((i j : ℕ) → n ≤ i → test i j ≡ false) → (i j : ℕ) → in_row rows i j ≡ test i j
  made_is Gives test rows n made past says none i j = ⊎_elim
      (λ l. let m = made i l in m.2 j ∙ says i m.0 l m.1 j)
      (λ l. past i j l ∙ sym (none i j l))
      (cases_lt i n)

  pub filled_is : (Gives : ℕ → BitSet W → Type 0) (test : ℕ → ℕ → Bool) (rows : List (BitSet W)) (n : ℕ) (r : BitSet W) → n ≤ length rows → ((i : ℕ) → i < n → (s : BitSet W) × Gives i s × ((d : BitSet W) → get_or rows i d ≡ s)) → ((i : ℕ) → n ≤ i → i < length rows → (d : BitSet W) → get_or rows i d ≡ r) → ((j : ℕ) → member r.words j ≡ false) → ((i : ℕ) (s : BitSet W) → i < n → Gives i s → (j : ℕ) → member s.words j ≡ test i j) → ((i j : ℕ) → n ≤ i → test i j ≡ false) → (i j : ℕ) → in_row rows i j ≡ test i j
  filled_is Gives test rows n r size made rest nothing = made_is Gives test rows n (rows_made Gives rows n size made) (rows_behind rows n r rest nothing)

  -- a row is written, and the others stay
  pub row_set : (rows : List (BitSet W)) (i : ℕ) (r : BitSet W) → i < length rows → (k j : ℕ) → in_row (set rows i r) k j ≡ cond (eqb k i) (member r.words j) (in_row rows k j)
  row_set rows i r l k j = ⊎_elim
      (λ e. let same = row-set_same rows i r l j in rw e (let t : eqb i i ≡ true = grind (arith, nat_tests) in rw t same))
      (λ n. let t : eqb k i ≡ false = grind (arith, nat_tests) in rw t (row-set_other rows i k r n j))
      (cases_eq k i)
