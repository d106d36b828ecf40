-- A fact is wanting exactly when the test says so.
use Rattle.std.proofs.Common.{◌≡◌, ℕ, ◌<◌, ◌≤◌, true, false, not, ◌&&◌, ◌||◌, eqb, ltb, ◌⊎◌, List, length, Decides, ap, inl, inr, ⊎_elim, le_of_lt, arith}
use Rattle.std.proofs.lemmas.Bool.{and_parts, cases_order, or_cases}
use Rattle.std.proofs.lemmas.Bool.Decides.{Decides-and, Decides-eqb, Decides-like, Decides-not, Decides-or, nat_tests}
use Rattle.orders.proofs.Below.{below_is, is_false, is_true, none_is, refuted}
use Rattle.orders.proofs.Parts.{Together, home_keeps, sheet_laws, together_shared, turned}
use Rattle.orders.proofs.Places.{get_or-place, place_absent, place_same}
use Rattle.orders.proofs.Sorting.{by_relation, relation_by, sorted, sorted_runs}
use Rattle.orders.proofs.Standing.{stands_cases, stands_never, stands_taken}
use Rattle.orders.proofs.Trees.{close, first}
use Rattle.orders.specs.Check.{forced, leads, missing, never_put, some_below, taken_by, takes, together}
use Rattle.orders.specs.Facts.{Effects, needed, stands}
use Rattle.orders.specs.Running.{Earlier, RunningOrder, place}
use Rattle.orders.specs.Sheets.{Outline, Rules}
use Rattle.orders.specs.Theorems.{TestDecidesWanting}

pub needed_place : (s : Outline) (e : Effects) (p f : ℕ) → needed s e p f ≡ true → p ≤ s.size
needed_place s e p f h = grind (arith, nat_tests, h)

module _ (s : Outline) (rules : Rules s) (order : List ℕ) (runs : RunningOrder s order) where
  -- the place after the last step comes behind all
  pub place_end : place s.size order ≡ length order
  place_end = place_absent s.size order (λ h. omega (arith, get_or-place s.size order h, runs.positions (place s.size order) h))

  runs_leads : (x y : ℕ) → leads s x y ≡ true → Earlier order x y
  runs_leads x y h = ⊎_elim
      (runs.kept x y)
      (λ k.
      let l : x < s.size = grind (arith, nat_tests, k) in
      let e : y ≡ s.size = grind (arith, nat_tests, k) in
      omega (arith, runs.complete x l, place_end, ap (λ v. place v order) e))
      (or_cases (s.tied x y) (ltb x s.size && eqb y s.size) h)

  -- a part goes by as a whole
  part_behind : (x y z : ℕ) → Together s x y z → Earlier order z x → Earlier order z y
  part_behind x y z = ⊎_elim
      (λ k h. omega (arith, ap (λ v. place v order) k.0))
      (λ c. runs.unbroken c.a c.b z x y c.block c.lacks c.has_x c.has_y)

  part_ahead : (x y z : ℕ) → Together s x y z → Earlier order x z → Earlier order y z
  part_ahead x y z (inl (e, n)) h = omega (arith, ap (λ v. place v order) e)
  part_ahead x y z (inr c) h = go (cases_order (place y order) (place z order))
    where
      go : (place y order ≡ place z order) ⊎ (Earlier order y z ⊎ Earlier order z y) → Earlier order y z
      go (inl e) =
          let (_, m) = rules.proper c.a c.b c.block in
          absurd (omega (arith, c.lacks, c.has_y, place_same y z order (runs.complete y (omega (arith, c.has_y))) e))
      go (inr (inl l)) = l
      go (inr (inr l)) = absurd (omega (arith, part_behind y x z (turned s rules x y z (inr c)) l))

  -- what is forced between d and p comes between them
  forced_between : (d p x : ℕ) → forced s d p x ≡ true → Earlier order d p → Earlier order d x × Earlier order x p
  forced_between d p x h l =
      let (a, b) = and_parts (leads s d x || together s x p d) (together s x d p || leads s x p) h in (
        ⊎_elim (runs_leads d x) (λ k. part_behind p x d (turned s rules x p d (together_shared s rules x p d k)) l) (or_cases (leads s d x) (together s x p d) a),
        ⊎_elim (λ k. part_ahead d x p (turned s rules x d p (together_shared s rules x d p k)) l) (runs_leads x p) (or_cases (together s x d p) (leads s x p) b),
      )

-- in some running order f does not stand at the turn of p
abbrev Fails : Outline → Effects → ℕ → ℕ → Type 0
Fails s e p f = (order : List ℕ) × RunningOrder s order × (stands e order p f ≡ false)

-- f is not in the start set, and no adder is tied before p
abbrev pub Never : Outline → Effects → ℕ → ℕ → Type 0
Never s e p f = (e.start f ≡ false) × ((x : ℕ) → x < s.size → leads s x p ≡ true → e.adds x f ≡ false)

-- d takes f down and can come ahead of p, and no adder is forced between them
pub record Taken (s : Outline) (e : Effects) (p f d : ℕ) : Type 0 where
  pub position : d < s.size
  pub taker : takes e d f ≡ true
  pub other : d ≡ p → ⊥
  pub free : leads s p d ≡ false
  pub bare : (x : ℕ) → x < s.size → forced s d p x ≡ true → e.adds x f ≡ false

taken_is : (s : Outline) (e : Effects) (p f d : ℕ) → Decides (taken_by s e p f d) ((((takes e d f ≡ true) × (d ≡ p → ⊥)) × (leads s p d ≡ false)) × ((x : ℕ) → x < s.size → forced s d p x ≡ true → e.adds x f ≡ false))
taken_is s e p f d =
    let none = not (some_below s.size (λ x. e.adds x f && forced s d p x)) in
    Decides-and (takes e d f && not (eqb d p) && not (leads s p d)) none
    (Decides-and (takes e d f && not (eqb d p)) (not (leads s p d))
    (Decides-and (takes e d f) (not (eqb d p)) (is_true (takes e d f)) (Decides-not (eqb d p) (Decides-eqb d p)))
    (is_false (leads s p d)))
    (none_is (λ x. e.adds x f) (forced s d p) s.size)

-- what the test says
pub missing_is : (s : Outline) (e : Effects) (p f : ℕ) → Decides (missing s e p f) ((needed s e p f ≡ true) × (Never s e p f ⊎ ((d : ℕ) × Taken s e p f d)))
missing_is s e p f =
    Decides-and (needed s e p f) (never_put s e p f || some_below s.size (taken_by s e p f)) (is_true (needed s e p f))
    (Decides-or (never_put s e p f) (some_below s.size (taken_by s e p f))
    (Decides-and (not (e.start f)) (not (some_below s.size (λ x. e.adds x f && leads s x p))) (is_false (e.start f)) (none_is (λ x. e.adds x f) (λ x. leads s x p) s.size))
    (Decides-like (some_below s.size (taken_by s e p f))
    (λ (d, l, h). let t = (taken_is s e p f d).0 h in (d, record { position = l; taker = t.0.0.0; other = t.0.0.1; free = t.0.1; bare = t.1 }))
    (λ (d, t). (d, t.position, (taken_is s e p f d).1 (((t.taker, t.other), t.free), t.bare)))
    (below_is (taken_by s e p f) s.size)))

module _ (s : Outline) (rules : Rules s) (e : Effects) (p f : ℕ) where
  never_fails : p ≤ s.size → Never s e p f → Fails s e p f
  never_fails l (a, b) =
      let (R, keeps, only) = first (together s) (leads s) (sheet_laws s rules) ltb (home_keeps s rules) p in
      let runs = sorted_runs s rules R keeps in
      (sorted R s.size, runs, stands_never s e (sorted R s.size) runs p f (a, λ x m k. b x m (only x (relation_by s rules R keeps x p m l k))))

  taken_fails : p ≤ s.size → (d : ℕ) → Taken s e p f d → Fails s e p f
  taken_fails l d t =
      let (R, keeps, ahead, narrow) = close (together s) (leads s) (sheet_laws s rules) ltb (home_keeps s rules) p d t.other t.free in
      let m = t.position in
      let runs = sorted_runs s rules R keeps in (
        sorted R s.size,
        runs,
        stands_taken s e (sorted R s.size) runs p f (
          d,
          m,
          by_relation s rules R keeps d p m l ahead,
          t.taker,
          λ x k i j.
              t.bare x k (narrow x (relation_by s rules R keeps d x m (le_of_lt k) i) (relation_by s rules R keeps x p k l j)),
        ),
      )

  fails_missing : Fails s e p f → Never s e p f ⊎ ((d : ℕ) × Taken s e p f d)
  fails_missing (order, runs, h) = ⊎_elim
      (λ (a, none). inl (a, λ x l k. none x l (runs_leads s rules order runs x p k)))
      (λ (d, m, l, t, none). inr (
        d,
        record {
          position = m;
          taker = t;
          other = λ i. omega (arith, ap (λ v. place v order) i);
          free = refuted (leads s p d) (λ k. omega (arith, runs_leads s rules order runs p d k));
          bare = λ x k g. let (u, v) = forced_between s rules order runs d p x g l in none x k u v;
        },
      ))
      (stands_cases s e order runs p f h)

pub test_decides_wanting : TestDecidesWanting
test_decides_wanting s rules e p f = Decides-like (missing s e p f)
    (λ (h, g). (h, ⊎_elim (never_fails s rules e p f (needed_place s e p f h)) (λ (d, t). taken_fails s rules e p f (needed_place s e p f h) d t) g))
    (λ (h, g). (h, fails_missing s rules e p f g))
    (missing_is s e p f)
