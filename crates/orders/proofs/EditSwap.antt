-- Swap keeps the rules, and renames the running orders.
use Rattle.std.proofs.Common.{◌≡◌, ℕ, suc, ◌+◌, ◌-◌, ◌<◌, ◌≤◌, true, false, not, ◌⊎◌, sym, refl, ap, ◌∙◌, inl, inr, ⊎_elim, arith}
use Rattle.std.proofs.lemmas.Bool.{and_from, and_parts, both_ways, cases_Bool, cases_lt, cond-false, cond-true, not_from_false, not-true}
use Rattle.std.proofs.lemmas.Bool.Decides.{nat_tests}
use Rattle.orders.proofs.Below.{refuted}
use Rattle.orders.proofs.EditParts.{Largest, is_largest, part_nested}
use Rattle.orders.proofs.EditRuns.{Nested, TiedAlike, came_alike, inside_is, nests, same_inside}
use Rattle.orders.proofs.EditLoosen.{parts_are_tied_alike}
use Rattle.orders.proofs.EditMoves.{Moves, renamed_good, renamed_runs}
use Rattle.orders.specs.Check.{inside}
use Rattle.orders.specs.EditTheorems.{SwapCarriesBlocks, SwapKeepsGood, SwapKeepsRules, SwapRenamesOrders, SwapUndone}
use Rattle.orders.specs.Edits.{Neighbours, comes, covers, goes, swapped}
use Rattle.orders.specs.Sheets.{Apart, Inside, Outline, Outside, Rules, Within}

-- the two runs as numbers
pub record Bounds (n a k b : ℕ) : Type 0 where
  pub left : a < k
  pub right : k ≤ b
  pub size : b < n

-- where a position goes, by its place
abbrev Goes : ℕ → ℕ → ℕ → ℕ → ℕ → Type 0
Goes a k b x y = (Outside a b x × (y ≡ x)) ⊎ (((a ≤ x) × (x < k) × (y ≡ x + (suc b - k))) ⊎ ((k ≤ x) × (x ≤ b) × (y + (k - a) ≡ x)))

goes_is : (a k b x : ℕ) → a ≤ k → k ≤ suc b → Goes a k b x (goes a k b x)
goes_is a k b x l m = go (cases_lt x a) (cases_lt x k) (cases_lt b x)
  where
    go : (x < a) ⊎ (a ≤ x) → (x < k) ⊎ (k ≤ x) → (b < x) ⊎ (x ≤ b) → Goes a k b x (goes a k b x)
    go (inl h) _ _ = inl (inl h, grind (arith, nat_tests))
    go (inr h) (inl g) _ = inr (inl (h, g, grind (arith, nat_tests)))
    go (inr h) (inr g) (inr f) = inr (inr (g, f, grind (arith, nat_tests)))
    go (inr h) (inr g) (inl f) = inl (inr f, grind (arith, nat_tests))

-- where a block goes: u to v becomes c to d
abbrev Went : ℕ → ℕ → ℕ → ℕ → ℕ → ℕ → ℕ → Type 0
Went a k b u v c d =
    ((c ≡ u) × (d ≡ v) × (Apart a b u v ⊎ Within u v a b)) ⊎
    (((c ≡ u + (suc b - k)) × (d ≡ v + (suc b - k)) × Within a (k - 1) u v) ⊎
    ((c + (k - a) ≡ u) × (d + (k - a) ≡ v) × Within k b u v))

-- a block lies apart from both parts, has both, or lies in one
abbrev Kind : ℕ → ℕ → ℕ → ℕ → ℕ → Type 0
Kind a k b c d = (Apart a b c d ⊎ Within c d a b) ⊎ (Within a (k - 1) c d ⊎ Within k b c d)

went_by : (n a k b u v c d : ℕ) → Bounds n a k b → Goes a (a + (suc b - k)) b c u → Goes a (a + (suc b - k)) b d v → u < v → (Within u v a b → ⊥) → Kind a k b u v → Went a k b u v c d
went_by n a k b u v c d bounds f g l not-both (inl (inl w)) = inl (omega arith, omega arith, inl w)
went_by n a k b u v c d bounds f g l not-both (inl (inr w)) = absurd (not-both w)
went_by n a k b u v c d bounds f g l not-both (inr (inl w)) = inr (inl (omega arith, omega arith, w))
went_by n a k b u v c d bounds f g l not-both (inr (inr w)) = inr (inr (omega arith, omega arith, w))

pub swap_undone : SwapUndone
swap_undone a k b l m x =
    let turn = goes_is a (a + (suc b - k)) b in (
      omega (arith, goes_is a k b x l m, turn (goes a k b x) (omega arith) (omega arith)),
      omega (arith, turn x (omega arith) (omega arith), goes_is a k b (comes a k b x) l m),
    )

-- a block holds the same positions before and after
came_along : (n a k b u v c d x y : ℕ) → Bounds n a k b → Went a k b u v c d → Goes a (a + (suc b - k)) b x y → inside c d x ≡ inside u v y
came_along n a k b u v c d x y bounds w g = same_inside c d x u v y (λ i. (omega arith, omega arith)) (λ i. (omega arith, omega arith))

module _ (s : Outline) (rules : Rules s) (a k b : ℕ) (meet : Neighbours s a k b) where
  first : Largest s (k - 1) k a (k - 1)
  first = is_largest s rules (k - 1) k a (k - 1) (λ e. omega (arith, meet.later)) meet.first

  second : Largest s k (k - 1) k b
  second = is_largest s rules k (k - 1) k b (λ e. omega (arith, meet.later)) meet.second

  pub bounds : Bounds s.size a k b
  bounds = record {
    left = ⊎_elim (λ e. omega (arith, meet.later)) (λ e. omega (arith, meet.later)) first.member;
    right = ⊎_elim (λ e. omega arith) (λ e. omega arith) second.member;
    size = ⊎_elim (λ e. omega (arith, meet.position)) (λ (h, _, _). (rules.proper k b h).1) second.member;
  }

  kinds : (c d : ℕ) → s.block c d ≡ true → Kind a k b c d
  kinds c d h = go (part_nested s rules (k - 1) k a (k - 1) c d first h) (part_nested s rules k (k - 1) k b c d second h) (cases_lt d k)
    where
      go : Nested a (k - 1) c d → Nested k b c d → (d < k) ⊎ (k ≤ d) → Kind a k b c d
      go (inl (inr l)) _ _ = inl (inl (inr l))
      go (inl (inl l)) (inl (inl m)) _ = inl (inl (inl m))
      go (inl (inl l)) (inl (inr m)) _ = absurd (omega (arith, rules.proper c d h))
      go (inl (inl l)) (inr (inl w)) _ = inr (inr w)
      go (inl (inl l)) (inr (inr w)) _ = inr (inr (second.holds c d h (omega (arith, bounds), omega (arith, bounds)) (inl l)))
      go (inr (inl w)) _ _ = inr (inl w)
      go (inr (inr w)) _ (inl l) = inr (inl (first.holds c d h (omega (arith, bounds), omega (arith, bounds)) (inr l)))
      go (inr (inr w)) r (inr l) = inl (inr (omega arith, omega (arith, r, bounds)))

  comes_is : (x : ℕ) → Goes a (a + (suc b - k)) b x (comes a k b x)
  comes_is x = goes_is a (a + (suc b - k)) b x (omega (arith, bounds)) (omega (arith, bounds))

  went_is : (x : ℕ) → Goes a k b x (goes a k b x)
  went_is x = goes_is a k b x (omega (arith, bounds)) (omega (arith, bounds))

  covers_is : (c d : ℕ) → covers c d a b ≡ true → Within c d a b
  covers_is c d h = (grind (arith, nat_tests, h), grind (arith, nat_tests, h))

  is_covers : (c d : ℕ) → Within c d a b → covers c d a b ≡ true
  is_covers c d w = grind (arith, nat_tests)

  uncovered : (c d : ℕ) → (Within c d a b → ⊥) → covers c d a b ≡ false
  uncovered c d n = refuted (covers c d a b) (λ h. n (covers_is c d h))

  -- a block of the swapped sheet comes from an old one
  block_came : (c d : ℕ) → (swapped s a k b).block c d ≡ true → (u v : ℕ) × (s.block u v ≡ true) × Went a k b u v c d
  block_came c d h = ⊎_elim
      (λ g. (c, d, sym (cond-true (covers c d a b) _ _ g) ∙ h, inl (refl, refl, inr (covers_is c d g))))
      (λ g.
      let u = comes a k b c in
      let v = comes a k b d in
      let (i, j) = and_parts (s.block u v) (not (covers u v a b)) (sym (cond-false (covers c d a b) _ _ g) ∙ h) in
      (u, v, i, went_by s.size a k b u v c d bounds (comes_is c) (comes_is d) (rules.proper u v i).0 (λ w. both_ways (covers u v a b) (not-true (covers u v a b) j) (is_covers u v w)) (kinds u v i)))
      (cases_Bool (covers c d a b))

  -- and every old one goes somewhere
  block_at : (u v c d : ℕ) → s.block u v ≡ true → (Within c d a b → ⊥) → (Within u v a b → ⊥) → comes a k b c ≡ u → comes a k b d ≡ v → (swapped s a k b).block c d ≡ true
  block_at u v c d h m n e f =
      cond-false (covers c d a b) _ _ (uncovered c d m) ∙
      and_from (s.block (comes a k b c) (comes a k b d)) (not (covers (comes a k b c) (comes a k b d) a b)) (cc (h, e, f)) (not_from_false (covers (comes a k b c) (comes a k b d) a b) (let g = uncovered u v n in cc (g, e, f)))

  block_went : (u v : ℕ) → s.block u v ≡ true → (c d : ℕ) × ((swapped s a k b).block c d ≡ true) × Went a k b u v c d
  block_went u v h = go (kinds u v h)
    where
      l : u < v
      l = (rules.proper u v h).0

      go : Kind a k b u v → (c d : ℕ) × ((swapped s a k b).block c d ≡ true) × Went a k b u v c d
      go (inl (inl w)) = (u, v, block_at u v u v h (λ i. omega (arith, l, bounds)) (λ i. omega (arith, l, bounds)) (omega (arith, comes_is u, l, bounds)) (omega (arith, comes_is v, l, bounds)), inl (refl, refl, inl w))
      go (inl (inr w)) = (u, v, cond-true (covers u v a b) _ _ (is_covers u v w) ∙ h, inl (refl, refl, inr w))
      go (inr (inl w)) =
          let c = u + (suc b - k) in
          let d = v + (suc b - k) in
          (c, d, block_at u v c d h (λ i. omega (arith, bounds)) (λ i. omega (arith, bounds)) (omega (arith, comes_is c, l, bounds)) (omega (arith, comes_is d, l, bounds)), inr (inl (refl, refl, w)))
      go (inr (inr w)) =
          let c = u - (k - a) in
          let d = v - (k - a) in
          (c, d, block_at u v c d h (λ i. omega (arith, l, bounds)) (λ i. omega (arith, l, bounds)) (omega (arith, comes_is c, l, bounds)) (omega (arith, comes_is d, l, bounds)), inr (inr (omega (arith, l, bounds), omega (arith, l, bounds), w)))

  went_back : Moves s (swapped s a k b) (goes a k b) (comes a k b)
  went_back = record {
    there = λ x. (swap_undone a k b (omega (arith, bounds)) (omega (arith, bounds)) x).0;
    back = λ x. (swap_undone a k b (omega (arith, bounds)) (omega (arith, bounds)) x).1;
    size = refl;
    position = λ x l. omega (arith, went_is x, bounds);
    origin = λ x l. omega (arith, comes_is x, bounds);
    beyond = λ x l. omega (arith, went_is x, bounds);
    ties = λ x y h. h;
    blocks = λ c d h.
        let (u, v, g, w) = block_came c d h in
        (u, v, g, λ x. came_along s.size a k b u v c d x (comes a k b x) bounds w (comes_is x));
  }

  came_back : Moves (swapped s a k b) s (comes a k b) (goes a k b)
  came_back = record {
    there = went_back.back;
    back = went_back.there;
    size = refl;
    position = went_back.origin;
    origin = went_back.position;
    beyond = λ x l. omega (arith, comes_is x, bounds);
    ties = λ x y h. cc (h, went_back.there x, went_back.there y);
    blocks = λ u v h.
        let (c, d, g, w) = block_went u v h in
        (c, d, g, λ x. ap (inside u v) (sym (went_back.there x)) ∙ sym (came_along s.size a k b u v c d (goes a k b x) (comes a k b (goes a k b x)) bounds w (comes_is (goes a k b x))));
  }

pub swap_carries_blocks : SwapCarriesBlocks
swap_carries_blocks s rules a k b meet = ((went_back s rules a k b meet).blocks, (came_back s rules a k b meet).blocks)

pub swap_renames_orders : SwapRenamesOrders
swap_renames_orders s rules a k b meet order = (
  renamed_runs s (swapped s a k b) (goes a k b) (comes a k b) (went_back s rules a k b meet) order,
  renamed_runs (swapped s a k b) s (comes a k b) (goes a k b) (came_back s rules a k b meet) order,
)

pub swap_keeps_good : SwapKeepsGood
swap_keeps_good s rules a k b meet e good = renamed_good (swapped s a k b) s (comes a k b) (goes a k b) (came_back s rules a k b meet) e good

pub swap_keeps_rules : SwapKeepsRules
swap_keeps_rules s rules a k b meet free =
    let n = bounds s rules a k b meet in
    let alike : (c d i x y : ℕ) → (swapped s a k b).block c d ≡ true → Outside c d i → Inside c d x → Inside c d y → TiedAlike (swapped s a k b) i x y = λ c d i x y h.
    let (u, v, g, same) = (went_back s rules a k b meet).blocks c d h in
    came_alike s rules (comes a k b) c d u v i x y g same in
    let from = comes_is s rules a k b meet in
    let came = block_came s rules a k b meet in
    record {
      forward = λ x y h.
          let l = rules.forward (comes a k b x) (comes a k b y) h in
          let crossing : y ≤ x → ⊥ = λ m. both_ways (s.tied (k - 1) k) free (sym (parts_are_tied_alike s rules (k - 1) k (comes a k b x) (comes a k b y)
          (meet.first (comes a k b x) ∙ inside_is a (k - 1) (comes a k b x) (omega (arith, from x, from y), omega (arith, from x, from y)))
          (meet.second (comes a k b y) ∙ inside_is k b (comes a k b y) (omega (arith, from x, from y), omega (arith, from x, from y)))) ∙ h) in
          (⊎_elim (λ m. m) (λ m. absurd (crossing m)) (cases_lt x y), omega (arith, from y));
      chained = λ x y z. rules.chained (comes a k b x) (comes a k b y) (comes a k b z);
      proper = λ c d h. let (u, v, g, w) = came c d h in (omega (arith, w, n, rules.proper u v g), omega (arith, w, n, rules.proper u v g));
      nested = λ c d e f h g.
          let (u, v, i, w) = came c d h in
          let (p, q, j, z) = came e f g in
          let m = rules.nested u v p q i j in
          let l = rules.proper u v i in
          let r = rules.proper p q j in
          nests c d e f (λ x y t. omega (arith, w, z)) (λ x y t. omega (arith, w, z));
      before = λ c d i x y h o l m. (alike c d i x y h o l m).0;
      behind = λ c d i x y h o l m. (alike c d i x y h o l m).1;
    }
