-- Tests that two answers or two sheets are the same.
use Rattle.std.proofs.Common.{◌≡◌, ℕ, ◌<◌, ◌≤◌, Bool, true, false, ◌&&◌, eqb, ◌⊎◌, List, [], ◌∷◌, sym, refl, ap, ◌∙◌, inl, inr, ⊎_elim, arith}
use Rattle.std.proofs.lemmas.Bool.{and_parts, cases_lt, eqb-true, false≢true}
use Rattle.orders.proofs.Below.{refuted}
use Rattle.orders.proofs.Tested.{alike, alike_same, all_below, all_pairs, below_at, pair_at, rises, two_below}
use Rattle.orders.specs.Lists.{paired}
use Rattle.sheet.proofs.SheetRules.{sheet_rules}
use Rattle.sheet.specs.Sheets.{actions, outline}
use Rattle.sheet.specs.declared.sheet.Sheet.{Sheet}
use Rattle.smallsheets.specs.Rows.{Answer, same_list}
use Rattle.smallsheets.specs.Rows.Answer.{accepted, refused}
use Rattle.smallsheets.specs.Small.{IsSheet, SmallSheet}
use Rattle.smallsheets.proofs.Views.{Page, page_of}

pub lists_same : (xs ys : List ℕ) → same_list xs ys ≡ true → xs ≡ ys
lists_same [] [] h = refl
lists_same [] (y ∷ ys) h = absurd (false≢true h)
lists_same (x ∷ xs) [] h = absurd (false≢true h)
lists_same (x ∷ xs) (y ∷ ys) h =
    let both = and_parts (eqb x y) (same_list xs ys) h in
    let e = eqb-true x y both.0 in
    let f = lists_same xs ys both.1 in
    cc

abbrev pub same_answer : Answer → Answer → Bool
same_answer (accepted n) (accepted m) = eqb n m
same_answer (accepted n) (refused k values) = false
same_answer (refused k values) (accepted n) = false
same_answer (refused k values) (refused l others) = eqb k l && same_list values others

pub answers_same : (a b : Answer) → same_answer a b ≡ true → a ≡ b
answers_same (accepted n) (accepted m) h = ap accepted (eqb-true n m h)
answers_same (accepted n) (refused k values) h = absurd (false≢true h)
answers_same (refused k values) (accepted n) h = absurd (false≢true h)
answers_same (refused k values) (refused l others) h =
    let both = and_parts (eqb k l) (same_list values others) h in
    let e = eqb-true k l both.0 in
    let f = lists_same values others both.1 in
    cc

-- the relation has just these pairs
abbrev agree : ℕ → (ℕ → ℕ → Bool) → List (ℕ × ℕ) → Bool
agree n rel pairs = all_pairs (rises n) pairs && all_below n (λ i. all_below n (λ j. alike (rel i j) (paired pairs i j)))

agreed : (n : ℕ) (rel : ℕ → ℕ → Bool) (pairs : List (ℕ × ℕ)) → agree n rel pairs ≡ true → ((i j : ℕ) → rel i j ≡ true → (i < j) × (j < n)) → (i j : ℕ) → rel i j ≡ paired pairs i j
agreed n rel pairs t forward i j =
    let both = and_parts (all_pairs (rises n) pairs) _ t in
    ⊎_elim
    (λ (k, l). alike_same _ _ (below_at n _ (below_at n _ both.1 i k) j l))
    (λ out. refuted _ (λ h. let r = forward i j h in omega (arith, out, r.0, r.1)) ∙ sym (refuted _ (λ h. let r = two_below i j n (pair_at (rises n) pairs i j both.0 h) in omega (arith, out, r.0, r.1))))
    (in_range i j n)
  where
    in_range : (i j n : ℕ) → ((i < n) × (j < n)) ⊎ ((n ≤ i) ⊎ (n ≤ j))
    in_range i j n = ⊎_elim (λ k. ⊎_elim (λ l. inl (k, l)) (λ l. inr (inr l)) (cases_lt j n)) (λ k. inr (inl k)) (cases_lt i n)

-- the page is that of the small sheet
abbrev pub fits : Page → SmallSheet → Bool
fits p small = same_list p.numbers small.actions && (agree p.order.size p.order.tied small.ties && agree p.order.size p.order.block small.blocks)

pub fits_is : (sheet : Sheet) (small : SmallSheet) (p : Page) → page_of sheet ≡ p → fits p small ≡ true → IsSheet small sheet
fits_is sheet small p e t =
    let a = and_parts (same_list (actions sheet) small.actions) _ (ap (λ (q : Page). fits q small) e ∙ t) in
    let b = and_parts (agree (outline sheet).size (outline sheet).tied small.ties) _ a.1 in
    record {
      same_actions = lists_same _ _ a.0;
      same_ties = agreed _ _ _ b.0 (sheet_rules sheet).forward;
      same_blocks = agreed _ _ _ b.1 (sheet_rules sheet).proper;
    }
