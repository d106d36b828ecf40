-- No driving comes to a dead end.
use Rattle.std.proofs.Common.{◌≡◌, ℕ, suc, ◌+◌, ◌-◌, ◌<◌, ◌≤◌, true, List, length, get_or, ◌∙◌, subst, inl, ⊎_elim, arith}
use Rattle.std.proofs.lemmas.Bool.{cases_lt}
use Rattle.orders.proofs.DrivingPlaces.{block_entered, entry_once, tied_earlier}
use Rattle.orders.proofs.Least.{Known, Least, known_below, known_both, known_le, known_true, least}
use Rattle.orders.proofs.Places.{has_all, place_same}
use Rattle.orders.specs.Driving.{Driven, Lacks, Open}
use Rattle.orders.specs.DrivingTheorems.{NoDeadEnd}
use Rattle.orders.specs.Running.{Has, place}
use Rattle.orders.specs.Sheets.{Inside, Outline, Rules, Within}

-- a number from a on, below suc b, with P
abbrev From : (ℕ → Type 0) → ℕ → ℕ → Type 0
From P a b = (x : ℕ) × (x < suc b) × ((a ≤ x) × P x)

-- a block with some positions done and some undone
abbrev Partly : Outline → List ℕ → ℕ → ℕ → Type 0
Partly s done a b = (s.block a b ≡ true) × (From (Has done) a b × From (Lacks done) a b)

-- a block of width w is partly done
abbrev Wide : Outline → List ℕ → ℕ → Type 0
Wide s done w = (a : ℕ) × (a < s.size) × Partly s done a (a + w)

known_from : (P : ℕ → Type 0) → ((x : ℕ) → Known (P x)) → (a x : ℕ) → Known ((a ≤ x) × P x)
known_from P known a x = known_both (known_le a x) (known x)

known_lacks : (done : List ℕ) (x : ℕ) → Known (Lacks done x)
known_lacks done x = known_le (length done) (place x done)

known_wide : (s : Outline) (done : List ℕ) (w : ℕ) → Known (Wide s done w)
known_wide s done w = known_below (λ a. Partly s done a (a + w))
    (λ a. known_both (known_true (s.block a (a + w))) (known_both
    (known_below (λ x. (a ≤ x) × Has done x) (known_from (Has done) (λ x. known_le (suc (place x done)) (length done)) a) (suc (a + w)))
    (known_below (λ x. (a ≤ x) × Lacks done x) (known_from (Lacks done) (known_lacks done) a) (suc (a + w)))))
    s.size

-- a run of positions whose first undone position is open
pub record Stage (s : Outline) (done : List ℕ) (a b : ℕ) : Type 0 where
  pub bound : b < s.size
  pub undone : From (Lacks done) a b
  pub inner : (c d : ℕ) → Partly s done c d → Within c d a b
  pub ahead : (i p : ℕ) → s.tied i p ≡ true → Inside a b p → i < a → Has done i

stage_open : (s : Outline) → Rules s → (done : List ℕ) (a b : ℕ) → Stage s done a b → (p : ℕ) × Open s done p
stage_open s rules done a b stage = ⊎_elim
    (λ l. (
      l.at,
      record {
        position = omega (arith, stage.bound);
        undone = l.holds.1;
        due = λ i t. ⊎_elim
            (λ h. stage.ahead i l.at t (l.holds.0, omega arith) h)
            (λ h. ⊎_elim (λ g. g) (λ g. absurd (l.first i (rules.forward i l.at t).0 (h, g))) (cases_lt (place i done) (length done)))
            (cases_lt i a);
        entered = λ c d x y k i j h g. omega (arith, stage.inner c d (k, ((x, omega arith, (i.0, h)), (y, omega arith, (j.0, g)))));
      },
    ))
    (λ none. absurd (none stage.undone.0 stage.undone.1 stage.undone.2))
    (least (λ x. (a ≤ x) × Lacks done x) (known_from (Lacks done) (known_lacks done) a) (suc b))

some_undone : (n : ℕ) (done : List ℕ) → length done < n → Least (Lacks done) n
some_undone n done h = ⊎_elim
    (λ l. l)
    (λ none.
    let has : (x : ℕ) → x < n → Has done x = λ x l. ⊎_elim (λ g. g) (λ g. absurd (none x l g)) (cases_lt (place x done) (length done)) in
    absurd (omega (arith, has_all n done has)))
    (least (Lacks done) (known_lacks done) n)

module _ (s : Outline) (done : List ℕ) (driven : Driven s done) where
  latest : ℕ
  latest = get_or done (length done - 1) 0

  -- so any two blocks that are partly done share a position
  latest_inside : (a b : ℕ) → Partly s done a b → Inside a b latest
  unfolding latest
  latest_inside a b (k, ((x, i, (j, h)), (y, u, (v, g)))) =
      let at : place latest done ≡ length done - 1 = entry_once s done driven (length done - 1) (omega arith) in
      ⊎_elim
      (λ l. block_entered s done driven a b x y latest k (j, omega arith) (v, omega arith) (omega arith) (omega arith) (omega arith))
      (λ l. omega (arith, place_same x latest done h (omega arith)))
      (cases_lt (place x done) (length done - 1))

  module _ (rules : Rules s) where
    wide : (a b : ℕ) → Partly s done a b → Wide s done (b - a)
    wide a b p =
        let q = rules.proper a b p.0 in
        (a, omega arith, subst (Partly s done a) (omega arith) p)

    -- where no block is partly done, all positions are the stage
    whole : length done < s.size → ((w : ℕ) → w < s.size → Wide s done w → ⊥) → Stage s done 0 (s.size - 1)
    whole h none =
        let l = some_undone s.size done h in
        record {
          bound = omega arith;
          undone = (l.at, omega (arith, l.below), (omega arith, l.holds));
          inner = λ c d p. absurd (none (d - c) (omega (arith, rules.proper c d p.0)) (wide c d p));
          ahead = λ i p t h l. absurd (omega arith);
        }

    -- otherwise the smallest such block is the stage, since it lies in all of them
    smallest : (l : Least (Wide s done) s.size) → Stage s done l.holds.0 (l.holds.0 + l.at)
    smallest l =
        let (a, h, (k, ((x, u, (v, g)), y))) = l.holds in
        let b = a + l.at in
        let inside = latest_inside a b l.holds.2 in
        record {
          bound = (rules.proper a b k).1;
          undone = y;
          inner = λ c d q.
              let inside' = latest_inside c d q in
              ⊎_elim
              (λ m. absurd (l.first (d - c) m (wide c d q)))
              (λ m. omega (arith, rules.nested a b c d k q.0))
              (cases_lt (d - c) l.at);
          ahead = λ i q t j m. omega (arith, tied_earlier s done driven i x (rules.before a b i x q k (inl m) (v, omega arith) j ∙ t) g);
        }

    stage : length done < s.size → (a b : ℕ) × Stage s done a b
    stage h = ⊎_elim
        (λ l. (l.holds.0, l.holds.0 + l.at, smallest l))
        (λ none. (0, s.size - 1, whole h none))
        (least (Wide s done) (known_wide s done) s.size)

pub no_dead_end : NoDeadEnd
no_dead_end s rules done driven h =
    let (a, b, g) = stage s done driven rules h in
    stage_open s rules done a b g
