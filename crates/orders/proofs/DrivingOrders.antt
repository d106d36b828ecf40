-- Drivings to the end are the running orders, and every driving is the front of one.
use Rattle.std.proofs.Common.{◌≡◌, ℕ, zero, suc, ◌+◌, ◌-◌, ◌<◌, ◌≤◌, ◌⊎◌, List, [], ◌∷◌, ◌++◌, length, get_or, sym, ap, ◌∙◌, inl, inr, ⊎_elim, arith}
use Rattle.std.proofs.lemmas.List.{append_assoc, append-nil, get_or_append_left, get_or_push, length_push, take-append-le, take_at}
use Rattle.std.proofs.lemmas.Bool.{cases_lt}
use Rattle.orders.proofs.DrivingOpen.{no_dead_end}
use Rattle.orders.proofs.DrivingPlaces.{block_entered, entry_once, front_is, place_entry, tied_earlier}
use Rattle.orders.proofs.Pigeonhole.{Differ, differ_fit, differ_miss}
use Rattle.orders.proofs.Places.{has_all, place_le, place_same}
use Rattle.orders.specs.Driving.{Driven, Lacks, Open}
use Rattle.orders.specs.DrivingTheorems.{DrivingEndsRunning, DrivingIsFront, RunningIsDriven}
use Rattle.orders.specs.Running.{Has, RunningOrder, place}
use Rattle.orders.specs.Sheets.{Inside, Outline, Outside, Rules}

-- entries that stand where they first stand differ
entries_differ : (n : ℕ) (l : List ℕ) → ((k : ℕ) → k < length l → get_or l k 0 < n) → ((k : ℕ) → k < length l → place (get_or l k 0) l ≡ k) → Differ (length l) n (λ k. get_or l k 0)
entries_differ n l below once = record {
  below = below;
  apart = λ j k h g e. sym (once j h) ∙ (ap (λ x. place x l) e ∙ once k g);
}

driven_differ : (s : Outline) (done : List ℕ) → Driven s done → Differ (length done) s.size (λ k. get_or done k 0)
driven_differ s done driven = entries_differ s.size done (λ k h. (driven k h).position) (entry_once s done driven)

-- no more are done than there are positions
pub driven_fits : (s : Outline) (done : List ℕ) → Driven s done → length done ≤ s.size
driven_fits s done driven = differ_fit (length done) s.size (λ k. get_or done k 0) (driven_differ s done driven)

-- while a position is undone, not all are done
pub driven_room : (s : Outline) (done : List ℕ) (x : ℕ) → Driven s done → x < s.size → Lacks done x → length done < s.size
driven_room s done x driven h lacks =
    differ_miss (length done) s.size x (λ k. get_or done k 0) (driven_differ s done driven) h
    (λ k l e. omega (arith, ap (λ y. place y done) e, place_entry k done l))

cases_inside : (a b x : ℕ) → Inside a b x ⊎ Outside a b x
cases_inside a b x = ⊎_elim (λ l. inr (inl l)) (λ h. ⊎_elim (λ l. inr (inr l)) (λ g. inl (h, g)) (cases_lt b x)) (cases_lt x a)

outside_elsewhere : (a b i y : ℕ) (l : List ℕ) → Outside a b i → Inside a b y → Has l i → place i l ≡ place y l → ⊥
outside_elsewhere a b i y l o v h e = omega (arith, place_same i y l h e)

pub driving_ends_running : DrivingEndsRunning
driving_ends_running s rules order driven e = record {
  positions = λ k h. (driven k h).position;
  complete = complete;
  once = entry_once s order driven;
  kept = λ i j t. tied_earlier s order driven i j t (complete j (rules.forward i j t).1);
  unbroken = λ a b i x y k o u v l. ⊎_elim
      (λ h. h)
      (λ h.
      let has : Has order i = omega (arith, place_le x order) in
      absurd (omega (arith, block_entered s order driven a b y x i k v u has (omega (arith, outside_elsewhere a b i y order o v has)) (omega arith))))
      (cases_lt (place i order) (place y order));
}
  where
    complete : (x : ℕ) → x < s.size → Has order x
    complete x h = ⊎_elim
        (λ g. g)
        (λ g. absurd (omega (arith, driven_room s order x driven h g)))
        (cases_lt (place x order) (length order))

pub running_length : (s : Outline) (order : List ℕ) → RunningOrder s order → length order ≡ s.size
running_length s order running = omega (
  arith,
  differ_fit (length order) s.size (λ k. get_or order k 0) (entries_differ s.size order running.positions running.once),
  has_all s.size order running.complete,
)

pub running_open : (s : Outline) (order : List ℕ) → RunningOrder s order → Driven s order
running_open s order running k h =
    let p = get_or order k 0 in
    let at : place p order ≡ k = running.once k h in
    let has : Has order p = omega arith in
    record {
      position = running.positions k h;
      undone = omega (arith, front_is p k order (omega arith));
      due = λ i t. omega (arith, running.kept i p t, front_is i k order (omega arith));
      entered = λ a b x y c u v g l. ⊎_elim (λ i. i)
          (λ o.
          let m : k < place y order = omega (arith, front_is y k order (omega arith), outside_elsewhere a b p y order o v has) in
          absurd (omega (arith, front_is x k order (omega arith), running.unbroken a b p y x c o v u (omega arith))))
          (cases_inside a b p);
    }

pub running_is_driven : RunningIsDriven
running_is_driven s rules order running = (running_open s order running, running_length s order running)

pub driven_push : (s : Outline) (done : List ℕ) (p : ℕ) → Driven s done → Open s done p → Driven s (done ++ p ∷ [])
driven_push s done p driven open' k h = ⊎_elim
    (λ l. rw (take-append-le k done (p ∷ []) (omega arith), get_or_append_left done (p ∷ []) 0 k l) (driven k l))
    (λ l.
    let e : length done ≡ k = omega (arith, length_push done p) in
    rw (take_at done (p ∷ []) k e, get_or_push done p 0 k e) open')
    (cases_lt k (length done))

complete_driving : (s : Outline) → Rules s → (n : ℕ) (done : List ℕ) → Driven s done → n + length done ≡ s.size → (rest : List ℕ) × RunningOrder s (done ++ rest)
complete_driving s rules zero done driven e = ([], rw append-nil (driving_ends_running s rules done driven (omega arith)))
complete_driving s rules (suc n) done driven e =
    let (p, o) = no_dead_end s rules done driven (omega arith) in
    let (rest, running) = complete_driving s rules n (done ++ p ∷ []) (driven_push s done p driven o) (omega (arith, length_push done p)) in
    (p ∷ rest, rw append_assoc at running)

pub driving_is_front : DrivingIsFront
driving_is_front s rules done driven =
    let h = driven_fits s done driven in
    complete_driving s rules (s.size - length done) done driven (omega arith)
