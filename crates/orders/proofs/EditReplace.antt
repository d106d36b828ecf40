-- Replace keeps the rules, and the ties and blocks of the other positions.
use Rattle.std.proofs.Common.{◌≡◌, ℕ, suc, ◌+◌, ◌-◌, ◌<◌, ◌≤◌, true, false, cond, ◌&&◌, ◌||◌, eqb, ltb, leb, ◌⊎◌, Decides, sym, refl, ap, ◌∙◌, inl, inr, ⊎_elim, arith}
use Rattle.std.proofs.lemmas.Bool.{and_cases, and_from, and_parts, cases_Bool, cases_lt, cond-false, cond-true, eq-eqb, eqb-false, eqb-true, le-leb, le-ltb, leb-false, leb-true, lt-ltb, ltb-false, ltb-true}
use Rattle.std.proofs.lemmas.Bool.Decides.{Decides-and, Decides-ltb, Decides-or, nat_tests}
use Rattle.orders.proofs.Below.{refuted}
use Rattle.orders.proofs.EditRuns.{Nested, TiedAlike, block_alike, came_alike, nests, not_inside, same_inside}
use Rattle.orders.specs.Check.{inside}
use Rattle.orders.specs.EditTheorems.{ReplaceKeepsBlocks, ReplaceKeepsRules, ReplaceKeepsTies}
use Rattle.orders.specs.Edits.{IsMember, is_new, none_or_all, replaced, stood, was}
use Rattle.orders.specs.Sheets.{Inside, Outline, Outside, Rules, Within}

-- x is one of the m steps from a on
abbrev New : ℕ → ℕ → ℕ → Type 0
New a m x = (a ≤ x) × (x < a + m)

is_new_is : (a m x : ℕ) → Decides (is_new a m x) (New a m x)
is_new_is a m x = Decides-and (leb a x) (ltb x (a + m)) (leb-true a x, le-leb a x) (Decides-ltb x (a + m))

-- y is the position whose ties x takes over
abbrev Stood : ℕ → ℕ → ℕ → ℕ → ℕ → Type 0
Stood a b m x y = ((x < a) × (y ≡ x)) ⊎ ((New a m x × (y ≡ a)) ⊎ ((a + m ≤ x) × (y + (a + m) ≡ x + suc b)))

stood_is : (a b m x : ℕ) → Stood a b m x (stood a b m x)
stood_is a b m x = go (cases_lt x a) (cases_lt x (a + m))
  where
    go : (x < a) ⊎ (a ≤ x) → (x < a + m) ⊎ (a + m ≤ x) → Stood a b m x (stood a b m x)
    go (inl l) _ = inl (l, grind (arith, nat_tests))
    go (inr l) (inl g) = inr (inl ((l, g), grind (arith, nat_tests)))
    go (inr l) (inr g) = inr (inr (g, grind (arith, nat_tests)))

-- v is where the last position d of a block was
abbrev Ended : ℕ → ℕ → ℕ → ℕ → ℕ → Type 0
Ended a b m d v = ((d < a) × (v ≡ d)) ⊎ ((a ≤ d) × (v ≡ was a b m d))

ended_is : (a b m d : ℕ) → Ended a b m d (cond (ltb d a) d (was a b m d))
ended_is a b m d = ⊎_elim (λ l. inl (l, cond-true (ltb d a) _ _ (lt-ltb d a l))) (λ l. inr (l, cond-false (ltb d a) _ _ (le-ltb d a l))) (cases_lt d a)

-- c to d has none or all of the m steps from a on
abbrev NoneOrAll : ℕ → ℕ → ℕ → ℕ → Type 0
NoneOrAll a m c d = ((d < a) ⊎ (a + m ≤ c)) ⊎ ((c ≤ a) × (a + m ≤ suc d))

none_or_all_is : (a m c d : ℕ) → Decides (none_or_all a m c d) (NoneOrAll a m c d)
none_or_all_is a m c d =
    let le : (x y : ℕ) → Decides (leb x y) (x ≤ y) = λ x y. (leb-true x y, le-leb x y) in
    Decides-or (ltb d a || leb (a + m) c) (leb c a && leb (a + m) (suc d))
    (Decides-or (ltb d a) (leb (a + m) c) (Decides-ltb d a) (le (a + m) c))
    (Decides-and (leb c a) (leb (a + m) (suc d)) (le c a) (le (a + m) (suc d)))

-- a block that stays, and does not lie inside a to b: u to v becomes c to d
abbrev Stays : ℕ → ℕ → ℕ → ℕ → ℕ → ℕ → ℕ → Type 0
Stays a b m u v c d =
    ((v < a) × (c ≡ u) × (d ≡ v)) ⊎
    (((b < u) × (c + suc b ≡ u + (a + m)) × (d + suc b ≡ v + (a + m))) ⊎
    ((u ≤ a) × (b ≤ v) × (c ≡ u) × (d + suc b ≡ v + (a + m)) × (u + b < a + v)))

stays_by : (a b m u v c d : ℕ) → a ≤ b → 0 < m → u < v → Stood a b m c u → Ended a b m d v → (c ≡ a → ⊥) ⊎ (suc d ≡ a + m → ⊥) → NoneOrAll a m c d → Stays a b m u v c d
stays_by a b m u v c d l some p f g n (inl (inl h)) = inl (omega arith, omega arith, omega arith)
stays_by a b m u v c d l some p f g n (inl (inr h)) = inr (inl (omega arith, omega arith, omega arith))
stays_by a b m u v c d l some p f g n (inr h) = inr (inr (omega arith, omega arith, omega arith, omega arith, omega arith))

module _ (s : Outline) (rules : Rules s) (a b m : ℕ) (l : a ≤ b) where
  at : (x : ℕ) → Stood a b m x (stood a b m x)
  at = stood_is a b m

  -- ties are the old ones, but for two new steps
  old_tie : (x y : ℕ) → (New a m x → New a m y → ⊥) → (replaced s a b m).tied x y ≡ s.tied (stood a b m x) (stood a b m y)
  old_tie x y not-both = cond-false (is_new a m x && is_new a m y) _ _
      (refuted (is_new a m x && is_new a m y) (λ h. let (u, v) = and_parts (is_new a m x) (is_new a m y) h in not-both ((is_new_is a m x).0 u) ((is_new_is a m y).0 v)))

  new_tie : (x y : ℕ) → New a m x → New a m y → (replaced s a b m).tied x y ≡ ltb x y
  new_tie x y h g = cond-true (is_new a m x && is_new a m y) _ _ (and_from (is_new a m x) (is_new a m y) ((is_new_is a m x).1 h) ((is_new_is a m y).1 g))

  -- a tie is one between new steps or an old one
  abbrev Tied : ℕ → ℕ → Type 0
  Tied x y = (New a m x × New a m y × (x < y)) ⊎ (s.tied (stood a b m x) (stood a b m y) ≡ true)

  cases_tie : (x y : ℕ) → (replaced s a b m).tied x y ≡ true → Tied x y
  cases_tie x y h = ⊎_elim
      (λ g.
      let (u, v) = and_parts (is_new a m x) (is_new a m y) g in
      let p = (is_new_is a m x).0 u in
      let q = (is_new_is a m y).0 v in
      inl (p, q, ltb-true x y (sym (new_tie x y p q) ∙ h)))
      (λ g. inr (sym (cond-false (is_new a m x && is_new a m y) _ _ g) ∙ h))
      (cases_Bool (is_new a m x && is_new a m y))

  still_tied : (x y : ℕ) → s.tied (stood a b m x) (stood a b m y) ≡ true → (replaced s a b m).tied x y ≡ true
  still_tied x y h = old_tie x y (λ p q. omega (arith, at x, at y, rules.forward (stood a b m x) (stood a b m y) h)) ∙ h

  replace_chained : (x y z : ℕ) → (replaced s a b m).tied x y ≡ true → (replaced s a b m).tied y z ≡ true → (replaced s a b m).tied x z ≡ true
  replace_chained x y z h g = go (cases_tie x y h) (cases_tie y z g)
    where
      go : Tied x y → Tied y z → (replaced s a b m).tied x z ≡ true
      go (inl (p, q, i)) (inl (_, r, j)) = new_tie x z p r ∙ lt-ltb x z (omega arith)
      go (inl (p, q, i)) (inr t) =
          let e : stood a b m x ≡ stood a b m y = omega (arith, at x, at y) in
          still_tied x z (ap (λ v. s.tied v (stood a b m z)) e ∙ t)
      go (inr t) (inl (p, q, i)) =
          let e : stood a b m z ≡ stood a b m y = omega (arith, at y, at z) in
          still_tied x z (ap (s.tied (stood a b m x)) e ∙ t)
      go (inr t) (inr u) = still_tied x z (rules.chained (stood a b m x) (stood a b m y) (stood a b m z) t u)

  -- a block is the new steps or one that stays
  abbrev Block : ℕ → ℕ → Type 0
  Block c d = ((c ≡ a) × (suc d ≡ a + m) × (2 ≤ m)) ⊎ ((u v : ℕ) × (s.block u v ≡ true) × Stays a b m u v c d)

  cases_block : 0 < m → (c d : ℕ) → (replaced s a b m).block c d ≡ true → Block c d
  cases_block some c d h = ⊎_elim
      (λ g.
      let (p, q) = and_parts (eqb c a) (eqb (suc d) (a + m)) g in
      inl (eqb-true c a p, eqb-true (suc d) (a + m) q, leb-true 2 m (sym (cond-true (eqb c a && eqb (suc d) (a + m)) _ _ g) ∙ h)))
      (λ g.
      let u = stood a b m c in
      let v = cond (ltb d a) d (was a b m d) in
      let (p, q) = and_parts (none_or_all a m c d) (s.block u v) (sym (cond-false (eqb c a && eqb (suc d) (a + m)) _ _ g) ∙ h) in
      let other = ⊎_elim (λ e. inl (eqb-false c a e)) (λ e. inr (eqb-false (suc d) (a + m) e)) (and_cases (eqb c a) (eqb (suc d) (a + m)) g) in
      inr (u, v, q, stays_by a b m u v c d l some (rules.proper u v q).0 (at c) (ended_is a b m d) other ((none_or_all_is a m c d).0 p)))
      (cases_Bool (eqb c a && eqb (suc d) (a + m)))

  stays_block : 0 < m → (u v c d : ℕ) → s.block u v ≡ true → Stays a b m u v c d → (replaced s a b m).block c d ≡ true
  stays_block some u v c d h w =
      let i = rules.proper u v h in
      let e : stood a b m c ≡ u = omega (arith, at c) in
      let f : cond (ltb d a) d (was a b m d) ≡ v = omega (arith, ended_is a b m d) in
      let other : eqb c a && eqb (suc d) (a + m) ≡ false = refuted (eqb c a && eqb (suc d) (a + m)) (λ g.
      let (p, q) = and_parts (eqb c a) (eqb (suc d) (a + m)) g in
      omega (arith, eqb-true c a p, eqb-true (suc d) (a + m) q)) in
      let all : NoneOrAll a m c d = ⊎_elim (λ g. inl (inl (omega arith))) (⊎_elim (λ g. inl (inr (omega arith))) (λ g. inr (omega arith, omega arith))) w in
      cond-false (eqb c a && eqb (suc d) (a + m)) _ _ other ∙
      and_from (none_or_all a m c d) (s.block (stood a b m c) (cond (ltb d a) d (was a b m d))) ((none_or_all_is a m c d).1 all) (cc (h, e, f))

  -- a block that stays keeps its positions
  stays_along : (u v c d : ℕ) → Stays a b m u v c d → (x : ℕ) → inside c d x ≡ inside u v (stood a b m x)
  stays_along u v c d w x = let y = stood a b m x in same_inside c d x u v y (λ i. (omega (arith, at x), omega (arith, at x))) (λ i. (omega (arith, at x), omega (arith, at x)))

  alike : 0 < m → (c d i x y : ℕ) → (replaced s a b m).block c d ≡ true → Outside c d i → Inside c d x → Inside c d y → TiedAlike (replaced s a b m) i x y
  alike some c d i x y h o f g = go (cases_block some c d h)
    where
      -- where i and the positions of the block are not both new, it is enough that the old ties agree
      by_old : ((z : ℕ) → Inside c d z → New a m i → New a m z → ⊥) → TiedAlike s (stood a b m i) (stood a b m x) (stood a b m y) → TiedAlike (replaced s a b m) i x y
      by_old n (p, q) = (
        old_tie i x (n x f) ∙ (p ∙ sym (old_tie i y (n y g))),
        old_tie x i (λ r t. n x f t r) ∙ (q ∙ sym (old_tie y i (λ r t. n y g t r))),
      )

      go : Block c d → TiedAlike (replaced s a b m) i x y
      go (inl p) =
          let e : stood a b m x ≡ stood a b m y = omega (arith, at x, at y) in
          by_old (λ z j t w. omega arith) (ap (s.tied (stood a b m i)) e, ap (λ z. s.tied z (stood a b m i)) e)
      go (inr (u, v, k, w)) = by_old (λ z j p q. omega arith) (came_alike s rules (stood a b m) c d u v i x y k (stays_along u v c d w) o f g)

member_run : (s : Outline) → Rules s → (a b : ℕ) → IsMember s a b → a ≤ b
member_run s rules a b (n, e) = ⊎_elim (λ i. omega arith) (λ h. omega (arith, rules.proper a b h)) e

pub replace_keeps_rules : ReplaceKeepsRules
replace_keeps_rules s rules a b m member some =
    let n = member.0 in
    let l = member_run s rules a b member in
    let from = stood_is a b m in
    let case = cases_block s rules a b m l some in
    record {
      forward = λ x y h. ⊎_elim
          (λ (p, q, r). (r, omega arith))
          (λ t.
          let f = rules.forward (stood a b m x) (stood a b m y) t in
          (omega (arith, from x, from y), omega (arith, from y)))
          (cases_tie s rules a b m l x y h);
      chained = replace_chained s rules a b m l;
      proper = λ c d h. ⊎_elim
          (λ p. (omega arith, omega arith))
          (λ (u, v, k, w). let f = rules.proper u v k in (omega arith, omega arith))
          (case c d h);
      nested = λ c d e f h g. ⊎_elim
          (λ p. ⊎_elim
          (λ q. nests c d e f (λ x y z. omega arith) (λ x y z. omega arith))
          (λ (u, v, k, w). let j = rules.proper u v k in nests c d e f (λ x y z. omega arith) (λ x y z. omega arith))
          (case e f g))
          (λ (u, v, k, w).
          let j = rules.proper u v k in
          ⊎_elim
          (λ q. nests c d e f (λ x y z. omega arith) (λ x y z. omega arith))
          (λ (u', v', k', w').
          let j' = rules.proper u' v' k' in
          let i = rules.nested u v u' v' k k' in
          nests c d e f (λ x y z. omega arith) (λ x y z. omega arith))
          (case e f g))
          (case c d h);
      before = λ c d i x y h o f g. (alike s rules a b m l some c d i x y h o f g).0;
      behind = λ c d i x y h o f g. (alike s rules a b m l some c d i x y h o f g).1;
    }

-- the positions of a member are tied alike
member_alike : (s : Outline) → Rules s → (a b i z : ℕ) → IsMember s a b → Outside a b i → Inside a b z → TiedAlike s i a z
member_alike s rules a b i z (n, e) o j = ⊎_elim
    (λ h. let f : a ≡ z = omega arith in (ap (s.tied i) f, ap (λ v. s.tied v i) f))
    (λ h. block_alike s rules a b i a z h o (omega arith, omega arith) j)
    e

pub replace_keeps_ties : ReplaceKeepsTies
replace_keeps_ties s rules a b m member x y z h g i =
    let l = member_run s rules a b member in
    let from = stood_is a b m in
    let p = (is_new_is a m x).0 h in
    let not_new : (y < a) ⊎ (a + m ≤ y) = ⊎_elim (λ q. inl (leb-false a y q)) (λ q. inr (ltb-false y (a + m) q)) (and_cases (leb a y) (ltb y (a + m)) g) in
    let e : stood a b m x ≡ a = omega (arith, from x) in
    let out = not_inside a b (stood a b m y) (λ j. omega (arith, from y)) in
    let (u, v) = member_alike s rules a b (stood a b m y) z member out i in (
      old_tie s rules a b m l x y (λ _ q. omega arith) ∙ (ap (λ w. s.tied w (stood a b m y)) e ∙ v),
      old_tie s rules a b m l y x (λ q _. omega arith) ∙ (ap (s.tied (stood a b m y)) e ∙ u),
    )

member_nested : (s : Outline) → Rules s → (a b c d : ℕ) → IsMember s a b → s.block c d ≡ true → Nested a b c d
member_nested s rules a b c d (n, e) h = ⊎_elim (λ i. nests a b c d (λ x y z. omega arith) (λ x y z. omega arith)) (λ g. rules.nested a b c d g h) e

pub replace_keeps_blocks : ReplaceKeepsBlocks
replace_keeps_blocks s rules a b m member some = (
  λ c d h. ⊎_elim inl
      (λ (u, v, k, w). let i = rules.proper u v k in inr (u, v, k, λ j. omega (arith, l), stays_along s rules a b m l u v c d w))
      (cases_block s rules a b m l some c d h),
  λ u v h out.
      let (c, d, w) = stays u v h out (member_nested s rules a b u v member h) in
      (c, d, stays_block s rules a b m l some u v c d h w, stays_along s rules a b m l u v c d w),
  λ d e f. cond-true (eqb a a && eqb (suc d) (a + m)) _ _ (and_from (eqb a a) (eqb (suc d) (a + m)) (eq-eqb a a refl) (eq-eqb (suc d) (a + m) e)) ∙ le-leb 2 m f,
)
  where
    l : a ≤ b
    l = member_run s rules a b member

    stays : (u v : ℕ) → s.block u v ≡ true → (Within a b u v → ⊥) → Nested a b u v → (c d : ℕ) × Stays a b m u v c d
    stays u v h out (inl (inr g)) = (u, v, inl (g, refl, refl))
    stays u v h out (inl (inl g)) = (u + (a + m) - suc b, v + (a + m) - suc b, inr (inl (g, omega arith, omega (arith, rules.proper u v h))))
    stays u v h out (inr (inl g)) = absurd (out g)
    stays u v h out (inr (inr g)) = (u, v + (a + m) - suc b, inr (inr (g.0, g.1, refl, omega (arith, l), ⊎_elim (λ f. f) (λ f. absurd (out (omega arith, omega arith))) (cases_lt (u + b) (a + v)))))
