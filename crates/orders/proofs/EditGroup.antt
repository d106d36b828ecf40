-- Group keeps the rules, adds as few ties as it can, and has no new running orders.
use Rattle.std.proofs.Common.{◌≡◌, ℕ, suc, ◌<◌, Bool, true, false, not, ◌&&◌, ◌||◌, leb, ◌⊎◌, Decides, sym, ◌∙◌, inl, inr, ⊎_elim, arith}
use Rattle.std.proofs.lemmas.Bool.{and_from, and_parts, cases_Bool, le-leb, leb-true, not_from_false, not-true, or_cases, or_left}
use Rattle.std.proofs.lemmas.Bool.Decides.{Decides-and, Decides-like, Decides-or, same_from_decides, nat_tests}
use Rattle.orders.proofs.Below.{below_is, is_true, refuted}
use Rattle.orders.proofs.EditRuns.{Nested, TiedAlike, block_alike, inside_is, is_inside, is_outside, nests, not_inside, outside_is}
use Rattle.orders.specs.Check.{inside, some_below}
use Rattle.orders.specs.EditTheorems.{GroupAddsFewest, GroupKeepsGood, GroupKeepsRules, GroupOrdersAreOld}
use Rattle.orders.specs.Edits.{CanGroup, grouped, joins, same_run, tied_ahead, tied_behind, touches}
use Rattle.orders.specs.Sheets.{Apart, Inside, Outline, Outside, Rules, Within}

pub group_orders_are_old : GroupOrdersAreOld
group_orders_are_old s a b order runs = record {
  positions = runs.positions;
  complete = runs.complete;
  once = runs.once;
  kept = λ i j t. runs.kept i j (or_left (s.tied i j) _ t);
  unbroken = λ c d i x y k. runs.unbroken c d i x y (or_left (s.block c d) (same_run a b c d) k);
}

pub group_keeps_good : GroupKeepsGood
group_keeps_good s a b e good p f (h, (order, runs, g)) = good p f (h, (order, group_orders_are_old s a b order runs, g))

-- what `touches` says
abbrev Touches : ℕ → ℕ → (ℕ → Bool) → ℕ → Type 0
Touches a b test x = Outside a b x × ((y : ℕ) × Inside a b y × (test y ≡ true))

touches_is : (a b : ℕ) (test : ℕ → Bool) (x : ℕ) → Decides (touches a b test x) (Touches a b test x)
touches_is a b test x =
    let some : ℕ → Bool = λ y. leb a y && test y in
    Decides-like (touches a b test x)
    (λ (o, (y, l, h)). let (u, v) = and_parts (leb a y) (test y) h in (is_outside a b x (not-true (inside a b x) o), (y, (leb-true a y u, omega arith), v)))
    (λ (o, (y, i, h)). (not_from_false (inside a b x) (outside_is a b x o), (y, omega arith, and_from (leb a y) (test y) (le-leb a y i.0) h)))
    (Decides-and (not (inside a b x)) (some_below (suc b) some) (is_true (not (inside a b x))) (below_is some (suc b)))

-- two tests that agree inside touch the run or do not
touches_same : (a b : ℕ) (test test' : ℕ → Bool) (x y : ℕ) → Outside a b x → Outside a b y → ((z : ℕ) → Inside a b z → test z ≡ test' z) → touches a b test x ≡ touches a b test' y
touches_same a b test test' x y o o' same = same_from_decides (touches a b test x) (touches a b test' y) (touches_is a b test x)
    (Decides-like (touches a b test' y)
    (λ (_, (z, i, h)). (o, (z, i, same z i ∙ h)))
    (λ (_, (z, i, h)). (o', (z, i, sym (same z i) ∙ h)))
    (touches_is a b test' y))

untouched : (a b : ℕ) (test : ℕ → Bool) (x : ℕ) → inside a b x ≡ true → touches a b test x ≡ false
untouched a b test x h = grind (arith, h)

-- a tie of the grouped sheet is an old one, or goes from ahead or from inside to inside or behind
cases_tie : (s : Outline) (a b x y : ℕ) → (grouped s a b).tied x y ≡ true →
    (s.tied x y ≡ true) ⊎ (((tied_ahead s a b x ≡ true) × ((inside a b y ≡ true) ⊎ (tied_behind s a b y ≡ true))) ⊎ ((inside a b x ≡ true) × (tied_behind s a b y ≡ true)))
cases_tie s a b x y =
    let A = tied_ahead s a b in
    let B = tied_behind s a b in
    let I = inside a b in
    (Decides-or (s.tied x y) (joins s a b x y) (is_true (s.tied x y))
    (Decides-or (A x && (I y || B y)) (I x && B y)
    (Decides-and (A x) (I y || B y) (is_true (A x)) (Decides-or (I y) (B y) (is_true (I y)) (is_true (B y))))
    (Decides-and (I x) (B y) (is_true (I x)) (is_true (B y))))).0

pub group_adds_fewest : GroupAddsFewest
group_adds_fewest s t rules a b block old x y h =
    let inner = rules.proper a b block in
    let ahead : (x y : ℕ) → tied_ahead s a b x ≡ true → Inside a b y → t.tied x y ≡ true = λ x y h i.
    let (o, (z, l, g)) = (touches_is a b (s.tied x) x).0 h in
    sym (rules.before a b x z y block o l i) ∙ old x z g in
    let behind : (x y : ℕ) → Inside a b x → tied_behind s a b y ≡ true → t.tied x y ≡ true = λ x y i h.
    let (o, (z, l, g)) = (touches_is a b (λ z. s.tied z y) y).0 h in
    sym (rules.behind a b y z x block o l i) ∙ old z y g in
    ⊎_elim
    (old x y)
    (⊎_elim
    (λ (p, q). ⊎_elim
    (λ i. ahead x y p (is_inside a b y i))
    (λ i. rules.chained x a y (ahead x a p (omega arith, omega arith)) (behind a y (omega arith, omega arith) i))
    q)
    (λ (p, q). behind x y (is_inside a b x p) q))
    (cases_tie s a b x y h)

-- the ties of a grouped sheet, over any tests: A is ahead, I is inside and B is behind
abbrev linked : (ℕ → ℕ → Bool) → (ℕ → Bool) → (ℕ → Bool) → (ℕ → Bool) → ℕ → ℕ → Bool
linked T A I B x y = T x y || ((A x && (I y || B y)) || (I x && B y))

-- what is needed of the tests
pub record Sides (T : ℕ → ℕ → Bool) (A I B : ℕ → Bool) : Type 0 where
  pub chained : (x y z : ℕ) → T x y ≡ true → T y z ≡ true → T x z ≡ true
  pub up : (x y : ℕ) → T x y ≡ true → A y ≡ true → A x ≡ true
  pub into : (x y : ℕ) → T x y ≡ true → I y ≡ true → (I x ≡ true) ⊎ (A x ≡ true)
  pub out_of : (x y : ℕ) → T x y ≡ true → I x ≡ true → (I y ≡ true) ⊎ (B y ≡ true)
  pub down : (x y : ℕ) → T x y ≡ true → B x ≡ true → B y ≡ true
  pub apart : (x : ℕ) → A x ≡ true → (I x ≡ false) × (B x ≡ false)
  pub outside : (x : ℕ) → B x ≡ true → I x ≡ false

module _ (T : ℕ → ℕ → Bool) (A I B : ℕ → Bool) (sides : Sides T A I B) where
  linked_chained : (x y z : ℕ) → linked T A I B x y ≡ true → linked T A I B y z ≡ true → linked T A I B x z ≡ true
  linked_chained x y z h g = grind (
    arith,
    sides.chained x y z,
    sides.up x y,
    sides.into x y,
    sides.out_of y z,
    sides.down y z,
    sides.apart y,
    sides.outside y,
    cases_Bool (T x y),
    cases_Bool (T y z),
    cases_Bool (A y),
    cases_Bool (I y),
    cases_Bool (B y),
    cases_Bool (A x),
    cases_Bool (I x),
    cases_Bool (I z),
    cases_Bool (B z),
  )

  -- i outside is tied before x inside where it is ahead, and behind x where it is behind
  linked_inside : (i x : ℕ) → I i ≡ false → I x ≡ true → (linked T A I B i x ≡ A i) × (linked T A I B x i ≡ B i)
  linked_inside i x o h = (
    grind (arith, sides.into i x, sides.outside x, cases_Bool (T i x), cases_Bool (A i), cases_Bool (B x)),
    grind (arith, sides.out_of x i, sides.apart x, cases_Bool (T x i), cases_Bool (B i), cases_Bool (A x)),
  )

module _ (s : Outline) (rules : Rules s) (a b : ℕ) (can : CanGroup s a b) where
  ahead_lies : (x : ℕ) → tied_ahead s a b x ≡ true → x < a
  ahead_lies x h = let (o, (y, i, t)) = (touches_is a b (s.tied x) x).0 h in omega (arith, rules.forward x y t)

  behind_lies : (x : ℕ) → tied_behind s a b x ≡ true → (b < x) × (x < s.size)
  behind_lies x h = let (o, (y, i, t)) = (touches_is a b (λ y. s.tied y x) x).0 h in omega (arith, rules.forward y x t)

  sides : Sides s.tied (tied_ahead s a b) (inside a b) (tied_behind s a b)
  sides = record {
    chained = rules.chained;
    up = λ x y t h.
        let (o, (z, i, g)) = (touches_is a b (s.tied y) y).0 h in
        (touches_is a b (s.tied x) x).1 (inl (omega (arith, rules.forward x y t, ahead_lies y h)), (z, i, rules.chained x y z t g));
    into = λ x y t i. ⊎_elim inl (λ o. inr ((touches_is a b (s.tied x) x).1 (is_outside a b x o, (y, is_inside a b y i, t)))) (cases_Bool (inside a b x));
    out_of = λ x y t i. ⊎_elim inl (λ o. inr ((touches_is a b (λ z. s.tied z y) y).1 (is_outside a b y o, (x, is_inside a b x i, t)))) (cases_Bool (inside a b y));
    down = λ x y t h.
        let (o, (z, i, g)) = (touches_is a b (λ z. s.tied z x) x).0 h in
        (touches_is a b (λ z. s.tied z y) y).1 (inr (omega (arith, rules.forward x y t, behind_lies x h)), (z, i, rules.chained z x y g t));
    apart = λ x h. (outside_is a b x (inl (ahead_lies x h)), refuted (tied_behind s a b x) (λ g. omega (arith, can.several, ahead_lies x h, behind_lies x g)));
    outside = λ x h. outside_is a b x (inr (behind_lies x h).0);
  }

  -- x and y are on one side of a to b
  abbrev OneSide : ℕ → ℕ → Type 0
  OneSide x y = (inside a b x ≡ inside a b y) × (tied_ahead s a b x ≡ tied_ahead s a b y) × (tied_behind s a b x ≡ tied_behind s a b y)

  -- the positions of a block are on one side of a to b, or the block has it whole
  sided : (c d x y : ℕ) → s.block c d ≡ true → Inside c d x → Inside c d y → OneSide x y ⊎ Within c d a b
  sided c d x y k u v = go (can.clear c d k)
    where
      away : Apart a b c d → (z : ℕ) → Inside c d z → Outside a b z
      away l z i = not_inside a b z (λ j. omega arith)

      other : Apart a b c d → (z : ℕ) → Inside a b z → Outside c d z
      other l z i = not_inside c d z (λ j. omega arith)

      go : Nested a b c d → OneSide x y ⊎ Within c d a b
      go (inl apart) = inl (
        outside_is a b x (away apart x u) ∙ sym (outside_is a b y (away apart y v)),
        touches_same a b (s.tied x) (s.tied y) x y (away apart x u) (away apart y v) (λ z i. rules.behind c d z x y k (other apart z i) u v),
        touches_same a b (λ z. s.tied z x) (λ z. s.tied z y) x y (away apart x u) (away apart y v) (λ z i. rules.before c d z x y k (other apart z i) u v),
      )
      go (inr (inl within)) =
          let p = inside_is a b x (omega arith, omega arith) in
          let q = inside_is a b y (omega arith, omega arith) in
          inl (p ∙ sym q, untouched a b (s.tied x) x p ∙ sym (untouched a b (s.tied y) y q), untouched a b (λ z. s.tied z x) x p ∙ sym (untouched a b (λ z. s.tied z y) y q))
      go (inr (inr within)) = inr within

  old_alike : (c d i x y : ℕ) → s.block c d ≡ true → Outside c d i → Inside c d x → Inside c d y → TiedAlike (grouped s a b) i x y
  old_alike c d i x y k o u v =
      let (m, n) = block_alike s rules c d i x y k o u v in
      ⊎_elim
      (λ (p, q, r). (cc (p, r, m), cc (p, q, n)))
      (λ w.
      let out = outside_is a b i (not_inside a b i (λ j. omega arith)) in (
        ⊎_elim
            (λ h.
            let (_, (z, l, g)) = (touches_is a b (s.tied i) i).0 h in
            grind (arith, m, g, rules.before c d i z x k o (omega arith, omega arith) u))
            (λ h. grind (arith, h, out, m))
            (cases_Bool (tied_ahead s a b i)),
        ⊎_elim
            (λ h.
            let (_, (z, l, g)) = (touches_is a b (λ z. s.tied z i) i).0 h in
            grind (arith, n, g, rules.behind c d i z x k o (omega arith, omega arith) u))
            (λ h. grind (arith, h, out, n))
            (cases_Bool (tied_behind s a b i)),
      ))
      (sided c d x y k u v)

  new_alike : (i x y : ℕ) → Outside a b i → Inside a b x → Inside a b y → TiedAlike (grouped s a b) i x y
  new_alike i x y o u v =
      let side = linked_inside s.tied (tied_ahead s a b) (inside a b) (tied_behind s a b) sides i in
      let (p, q) = side x (outside_is a b i o) (inside_is a b x u) in
      let (m, n) = side y (outside_is a b i o) (inside_is a b y v) in
      (p ∙ sym m, q ∙ sym n)

  -- a block of the grouped sheet is an old one or a to b
  cases_block : (c d : ℕ) → (grouped s a b).block c d ≡ true → (s.block c d ≡ true) ⊎ ((c ≡ a) × (d ≡ b))
  cases_block c d k = ⊎_elim inl (λ h. inr (grind (arith, nat_tests, h), grind (arith, nat_tests, h))) (or_cases (s.block c d) (same_run a b c d) k)

  alike : (c d i x y : ℕ) → (grouped s a b).block c d ≡ true → Outside c d i → Inside c d x → Inside c d y → TiedAlike (grouped s a b) i x y
  alike c d i x y k o u v = ⊎_elim
      (λ h. old_alike c d i x y h o u v)
      (λ (p, q). new_alike i x y (rw (p, q) at o) (rw (p, q) at u) (rw (p, q) at v))
      (cases_block c d k)

pub group_keeps_rules : GroupKeepsRules
group_keeps_rules s rules a b can =
    let case = cases_block s rules a b can in
    let ahead = ahead_lies s rules a b can in
    let behind = behind_lies s rules a b can in
    record {
      forward = λ x y h. ⊎_elim
          (rules.forward x y)
          (⊎_elim
          (λ (p, q). ⊎_elim
          (λ i. omega (arith, ahead x p, is_inside a b y i, can.positions))
          (λ i. omega (arith, ahead x p, behind y i, can.several))
          q)
          (λ (p, q). omega (arith, is_inside a b x p, behind y q)))
          (cases_tie s a b x y h);
      chained = linked_chained s.tied (tied_ahead s a b) (inside a b) (tied_behind s a b) (sides s rules a b can);
      proper = λ c d k. ⊎_elim (rules.proper c d) (λ e. omega (arith, can.several, can.positions)) (case c d k);
      nested = λ c d e f k l. ⊎_elim
          (λ h. ⊎_elim (rules.nested c d e f h) (λ g. let n = can.clear c d h in nests c d e f (λ x y z. omega arith) (λ x y z. omega arith)) (case e f l))
          (λ g. ⊎_elim
          (λ h. let n = can.clear e f h in nests c d e f (λ x y z. omega arith) (λ x y z. omega arith))
          (λ h. nests c d e f (λ x y z. omega arith) (λ x y z. omega arith))
          (case e f l))
          (case c d k);
      before = λ c d i x y k o u v. (alike s rules a b can c d i x y k o u v).0;
      behind = λ c d i x y k o u v. (alike s rules a b can c d i x y k o u v).1;
    }
