-- There is a sheet for every small sheet that keeps the rules.
use Rattle.std.proofs.Common.{◌≡◌, ℕ, zero, suc, ◌+◌, ◌<◌, ◌≤◌, Bool, true, false, cond, ◌&&◌, ◌||◌, eqb, ltb, leb, List, [], ◌∷◌, length, get_or, sym, refl, ap, ◌∙◌, subst, ⊎_elim, arith}
use Rattle.std.proofs.lemmas.Bool.{and_from, and_parts, cases_lt, leb-true, lt-ltb, ltb-true}
use Rattle.shaping.proofs.Outlines.{outlines_same, rules_kept}
use Rattle.orders.proofs.Below.{refuted}
use Rattle.orders.proofs.Tested.{all_low, all_pairs, keeps_rules, pair_at, rises, rising, rules_from_test, two_below}
use Rattle.orders.specs.Lists.{listed, paired}
use Rattle.orders.specs.Sheets.{Rules}
use Rattle.sets.specs.declared.bits.BitSet.{BitSet}
use Rattle.sheet.specs.Rows.{in_row, outlined}
use Rattle.sheet.specs.declared.sheet.Sheet.{Sheet}
use Rattle.smallsheets.specs.Small.{IsSheet, SmallSheet}
use Rattle.smallsheets.proofs.MakingTasks.{made_list, made_set}
use Rattle.smallsheets.proofs.Views.{outline_of}

-- what i is paired with
abbrev partners : List (ℕ × ℕ) → ℕ → List ℕ
partners [] i = []
partners (p ∷ ps) i = cond (eqb i p.0) (p.1 ∷ partners ps i) (partners ps i)

partners_are : (ps : List (ℕ × ℕ)) (i j : ℕ) → listed (partners ps i) j ≡ paired ps i j
partners_are [] i j = refl
partners_are (p ∷ ps) i j = go (eqb i p.0) (partners_are ps i j)
  where
    go : (b : Bool) → listed (partners ps i) j ≡ paired ps i j → listed (cond b (p.1 ∷ partners ps i) (partners ps i)) j ≡ ((b && eqb j p.1) || paired ps i j)
    go true e = ap (λ c. eqb j p.1 || c) e
    go false e = e

partners_low : (n : ℕ) → n ≤ 64 → (ps : List (ℕ × ℕ)) → all_pairs (rises n) ps ≡ true → (i : ℕ) → all_low 64 (partners ps i) ≡ true
partners_low n l [] t i = refl
partners_low n l (p ∷ ps) t i =
    let both = and_parts (rises n p.0 p.1) (all_pairs (rises n) ps) t in
    let r = two_below p.0 p.1 n both.0 in
    go (eqb i p.0) (lt-ltb p.1 64 (omega arith)) (partners_low n l ps both.1 i)
  where
    go : (b : Bool) → ltb p.1 64 ≡ true → all_low 64 (partners ps i) ≡ true → all_low 64 (cond b (p.1 ∷ partners ps i) (partners ps i)) ≡ true
    go true h e = and_from _ _ h e
    go false h e = e

module _ (n : ℕ) (l : n ≤ 64) (ps : List (ℕ × ℕ)) (t : all_pairs (rises n) ps ≡ true) where
  rows_from : (m i : ℕ) → (rows : List (BitSet 2)) × (length rows ≡ m) × ((k j : ℕ) → k < m → in_row rows k j ≡ paired ps (i + k) j) × ((k j : ℕ) → m ≤ k → in_row rows k j ≡ false)
  rows_from zero i = ([], refl, (λ k j h. absurd (omega arith)), (λ k j h. refl))
  rows_from (suc m) i =
      let row = made_set (partners ps i) (partners_low n l ps t i) 1 in
      let (rows, size, low, high) = rows_from m (suc i) in
      (row.0 ∷ rows, ap suc size, in_low row.0 rows (λ j. row.1 j ∙ partners_are ps i j) low, in_high row.0 rows high)
    where
      in_low : (row : BitSet 2) (rows : List (BitSet 2)) → ((j : ℕ) → in_row (row ∷ rows) 0 j ≡ paired ps i j) → ((k j : ℕ) → k < m → in_row rows k j ≡ paired ps (suc i + k) j) → (k j : ℕ) → k < suc m → in_row (row ∷ rows) k j ≡ paired ps (i + k) j
      in_low row rows here there zero j h = here j ∙ ap (λ x. paired ps x j) (let e : i ≡ i + 0 = omega arith in e)
      in_low row rows here there (suc k) j h = there k j (omega arith) ∙ ap (λ x. paired ps x j) (let e : suc i + k ≡ i + suc k = omega arith in e)

      in_high : (row : BitSet 2) (rows : List (BitSet 2)) → ((k j : ℕ) → m ≤ k → in_row rows k j ≡ false) → (k j : ℕ) → suc m ≤ k → in_row (row ∷ rows) k j ≡ false
      in_high row rows there zero j h = absurd (omega arith)
      in_high row rows there (suc k) j h = there k j (omega arith)

  made_rows : (rows : List (BitSet 2)) × (length rows ≡ 128) × ((i j : ℕ) → in_row rows i j ≡ paired ps i j)
  made_rows =
      let (rows, size, low, high) = rows_from 128 0 in (
        rows,
        size,
        (λ i j. ⊎_elim
            (λ h. low i j h ∙ ap (λ x. paired ps x j) (let e : 0 + i ≡ i = omega arith in e))
            (λ h. high i j h ∙ sym (refuted _ (λ e. omega (arith, two_below i j n (pair_at (rises n) ps i j t e)))))
            (cases_lt i 128)),
      )

get_or_low : (n : ℕ) → 0 < n → (xs : List ℕ) → all_low n xs ≡ true → (i : ℕ) → get_or xs i 0 < n
get_or_low n l [] t i = l
get_or_low n l (x ∷ xs) t zero = ltb-true x n (and_parts (ltb x n) (all_low n xs) t).0
get_or_low n l (x ∷ xs) t (suc i) = get_or_low n l xs (and_parts (ltb x n) (all_low n xs) t).1 i

-- whether there is a sheet for the small one
abbrev pub fits_sheet : SmallSheet → Bool
fits_sheet small = keeps_rules (length small.actions) small.ties small.blocks && (leb (length small.actions) 64 && all_low 128 small.actions)

pub small_rules : (small : SmallSheet) → fits_sheet small ≡ true → Rules (outline_of small)
small_rules small t = rules_from_test _ small.ties small.blocks (and_parts (keeps_rules (length small.actions) small.ties small.blocks) _ t).0

pub made_sheet : (small : SmallSheet) → fits_sheet small ≡ true → (sheet : Sheet) × IsSheet small sheet
made_sheet small t =
    let u = and_parts (keeps_rules (length small.actions) small.ties small.blocks) _ t in
    let v = and_parts (leb (length small.actions) 64) (all_low 128 small.actions) u.1 in
    let l = leb-true _ _ v.0 in
    let (rises-ties, rises-blocks) = rising _ small.ties small.blocks u.0 in
    let (steps, has) = made_list small.actions 128 (omega arith) 0 in
    let (behind, ties, tied) = made_rows _ l small.ties rises-ties in
    let (blocks, groups, block) = made_rows _ l small.blocks rises-blocks in
    let same = outlines_same (outlined steps behind blocks) (outline_of small) (ap length has) tied block in (
      record {
        steps = steps;
        behind = record { rows = behind; size = ties };
        blocks = record { rows = blocks; size = groups };
        numbers = λ i. subst (λ (xs : List ℕ). get_or xs i 0 < 128) (sym has) (get_or_low 128 (omega arith) small.actions v.1 i);
        rules = rules_kept _ (outline_of small) same (small_rules small t);
      },
      record { same_actions = has; same_ties = tied; same_blocks = block },
    )
