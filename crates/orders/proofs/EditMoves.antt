-- A sheet whose positions are renamed has the old running orders, renamed.
use Rattle.std.proofs.Common.{◌≡◌, ℕ, suc, ◌<◌, ◌≤◌, Bool, true, List, [], ◌∷◌, map, get_or, take, sym, refl, ap, ◌∙◌, ⊎_elim, arith}
use Rattle.std.proofs.lemmas.List.{get_or-map, length-map, take-map}
use Rattle.std.proofs.lemmas.Bool.{cases_lt}
use Rattle.std.proofs.lemmas.Bool.Decides.{nat_tests}
use Rattle.orders.proofs.EditRuns.{came_inside, came_outside}
use Rattle.orders.proofs.Places.{cases_place, place_here, place_there}
use Rattle.orders.specs.EditTheorems.{BlocksCome}
use Rattle.orders.specs.Edits.{carried}
use Rattle.orders.specs.Facts.{Effects, Good, after, needed, performed, stands}
use Rattle.orders.specs.Running.{RunningOrder, place}
use Rattle.orders.specs.Sheets.{Outline}

-- t is s, with every position x renamed to `to x`
pub record Moves (s t : Outline) (to from : ℕ → ℕ) : Type 0 where
  pub there : (x : ℕ) → from (to x) ≡ x
  pub back : (x : ℕ) → to (from x) ≡ x
  pub size : s.size ≡ t.size
  pub position : (x : ℕ) → x < s.size → to x < t.size
  pub origin : (x : ℕ) → x < t.size → from x < s.size
  pub beyond : (x : ℕ) → s.size ≤ x → to x ≡ x
  pub ties : (x y : ℕ) → t.tied x y ≡ true → s.tied (from x) (from y) ≡ true
  pub blocks : BlocksCome s t from

module _ (to from : ℕ → ℕ) (there : (x : ℕ) → from (to x) ≡ x) (back : (x : ℕ) → to (from x) ≡ x) where
  place_renamed : (x : ℕ) (l : List ℕ) → place x (map to l) ≡ place (from x) l
  place_renamed x [] = refl
  place_renamed x (y ∷ l) =
      let ih = place_renamed x l in
      ⊎_elim
      (λ (e, p). place_here x (to y) (map to l) (sym (back x) ∙ ap to e) ∙ sym p)
      (λ (n, p). place_there x (to y) (map to l) (λ e. n (ap from e ∙ there y)) ∙ (ap suc ih ∙ sym p))
      (cases_place (from x) y l)

module _ (s t : Outline) (to from : ℕ → ℕ) (moves : Moves s t to from) where
  at : (order : List ℕ) (x : ℕ) → place x (map to order) ≡ place (from x) order
  at order x = place_renamed to from moves.there moves.back x order

  pub renamed_runs : (order : List ℕ) → RunningOrder s order → RunningOrder t (map to order)
  renamed_runs order runs =
      let long = length-map order to in
      record {
        positions = λ k h. rw (get_or-map to order k 0 0 (omega arith)) (moves.position (get_or order k 0) (runs.positions k (omega arith)));
        complete = λ x h. omega (arith, at order x, runs.complete (from x) (moves.origin x h));
        once = λ k h. rw (get_or-map to order k 0 0 (omega arith)) (at order (to (get_or order k 0)) ∙ (ap (λ x. place x order) (moves.there (get_or order k 0)) ∙ runs.once k (omega arith)));
        kept = λ i j h. omega (arith, at order i, at order j, runs.kept (from i) (from j) (moves.ties i j h));
        unbroken = λ c d i x y k o h g l.
            let (u, v, m, same) = moves.blocks c d k in
            let outer = came_outside from c d u v same i o in
            let inner = came_inside from c d u v same in
            omega (arith, at order i, at order x, at order y, runs.unbroken u v (from i) (from x) (from y) m outer (inner x h) (inner y g) (omega (arith, at order i, at order x)));
      }

  after_carried : (e : Effects) (facts : ℕ → Bool) (l : List ℕ) (f : ℕ) → after (carried to e) facts l f ≡ after e facts (map to l) f
  after_carried e facts [] f = refl
  after_carried e facts (x ∷ l) f = after_carried e (performed e (to x) facts) l f

  stands_carried : (e : Effects) (order : List ℕ) (p f : ℕ) → stands (carried to e) order p f ≡ stands e (map to order) (to p) f
  stands_carried e order p f =
      let same : place (to p) (map to order) ≡ place p order = at order (to p) ∙ ap (λ x. place x order) (moves.there p) in
      after_carried e e.start (take (place p order) order) f ∙
      ap (λ l. after e e.start l f) (sym (take-map to (place p order) order) ∙ ap (λ k. take k (map to order)) (sym same))

  needed_carried : (e : Effects) (p f : ℕ) → needed s (carried to e) p f ≡ needed t e (to p) f
  needed_carried e p f = ⊎_elim
      (λ l. let m = moves.position p l in grind (arith, nat_tests, l, m))
      (λ l. let m = moves.beyond p l in rw m (grind (arith, nat_tests, l, moves.size)))
      (cases_lt p s.size)

  -- a sheet whose steps go with their positions stays good
  pub renamed_good : (e : Effects) → Good t e → Good s (carried to e)
  renamed_good e good p f (h, (order, runs, g)) = good (to p) f (sym (needed_carried e p f) ∙ h, (map to order, renamed_runs order runs, sym (stands_carried e order p f) ∙ g))
