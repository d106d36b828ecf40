-- Which positions are open and which orders are running orders, by tests that compute.
use Rattle.std.proofs.Common.{◌≡◌, ℕ, zero, suc, ◌+◌, ◌<◌, Bool, true, false, not, ◌&&◌, ◌||◌, eqb, ltb, List, [], ◌∷◌, ◌++◌, length, get_or, take, Decides, sym, refl, ap, ◌∙◌, subst, ⊎_elim, arith, take-suc}
use Rattle.std.proofs.lemmas.List.{length_push, take_all}
use Rattle.std.proofs.lemmas.Bool.{and_from, and_parts, both_ways, cases_Bool, eqb-true, false≢true, le-ltb, lt-ltb, ltb-false, ltb-true, not_from_false, not-true, or_cases, or_left, or_right}
use Rattle.driving.proofs.Done.{has}
use Rattle.orders.proofs.Below.{below_is}
use Rattle.orders.proofs.DrivingOrders.{driving_ends_running, running_is_driven}
use Rattle.orders.proofs.EditRuns.{inside_is, is_inside}
use Rattle.orders.proofs.Tested.{all_below, all_pass, below_at}
use Rattle.orders.specs.Check.{inside, some_below}
use Rattle.orders.specs.Driving.{Driven, Lacks, Open}
use Rattle.orders.specs.Running.{Has, RunningOrder}
use Rattle.orders.specs.Sheets.{Inside, Outline, Rules}
use Rattle.smallsheets.specs.Rows.{among, same_list}
use Rattle.smallsheets.proofs.Fitting.{lists_same}

-- whether some but not all positions of a to b are done
abbrev partly : ℕ → List ℕ → ℕ → ℕ → Bool
partly n done a b = some_below n (λ x. inside a b x && has done x) && some_below n (λ y. inside a b y && not (has done y))

-- whether p is open
abbrev is_due : Outline → List ℕ → ℕ → Bool
is_due s done p = all_below s.size (λ i. not (s.tied i p) || has done i)

abbrev is_entered : Outline → List ℕ → ℕ → Bool
is_entered s done p = all_below s.size (λ a. all_below s.size (λ b. not (s.block a b) || (inside a b p || not (partly s.size done a b))))

abbrev pub is_open : Outline → List ℕ → ℕ → Bool
is_open s done p = (ltb p s.size && not (has done p)) && (is_due s done p && is_entered s done p)

all_from : (n : ℕ) (test : ℕ → Bool) → ((k : ℕ) → k < n → test k ≡ true) → all_below n test ≡ true
all_from zero test h = refl
all_from (suc n) test h = and_from _ _ (h n (omega arith)) (all_from n test (λ k l. h k (omega arith)))

-- a test that holds where the first does
implied : (b c : Bool) → (not b || c) ≡ true → b ≡ true → c ≡ true
implied b c h t = ⊎_elim (λ n. absurd (both_ways b (not-true b n) t)) (λ x. x) (or_cases (not b) c h)

implies : (b c : Bool) → (b ≡ true → c ≡ true) → (not b || c) ≡ true
implies b c h = ⊎_elim (λ t. or_right _ _ (h t)) (λ f. or_left _ _ (not_from_false b f)) (cases_Bool b)

lacks_is : (done : List ℕ) (x : ℕ) → not (has done x) ≡ true → Lacks done x
lacks_is done x h = ltb-false _ _ (not-true _ h)

is_lacking : (done : List ℕ) (x : ℕ) → Lacks done x → not (has done x) ≡ true
is_lacking done x h = not_from_false _ (le-ltb _ _ h)

module _ (s : Outline) (rules : Rules s) (done : List ℕ) where
  -- a block with a position done and another not is partly done
  part_done : (a b x y : ℕ) → s.block a b ≡ true → Inside a b x → Inside a b y → Has done x → Lacks done y → partly s.size done a b ≡ true
  part_done a b x y block in-x in-y h l =
      let low = rules.proper a b block in
      and_from _ _
      ((below_is (λ x. inside a b x && has done x) s.size).1 (x, omega arith, and_from _ _ (inside_is a b x in-x) (lt-ltb _ _ h)))
      ((below_is (λ y. inside a b y && not (has done y)) s.size).1 (y, omega arith, and_from _ _ (inside_is a b y in-y) (is_lacking done y l)))

  open_is : (p : ℕ) → is_open s done p ≡ true → Open s done p
  open_is p t =
      let u = and_parts (ltb p s.size && not (has done p)) _ t in
      let v = and_parts (ltb p s.size) (not (has done p)) u.0 in
      let w = and_parts (is_due s done p) (is_entered s done p) u.1 in
      record {
        position = ltb-true _ _ v.0;
        undone = lacks_is done p v.1;
        due = λ i h. ltb-true _ _ (implied (s.tied i p) (has done i) (below_at s.size _ w.0 i (let r = rules.forward i p h in omega arith)) h);
        entered = λ a b x y block in-x in-y h l.
            let low = rules.proper a b block in
            let cell = implied (s.block a b) _ (below_at s.size _ (below_at s.size _ w.1 a (omega arith)) b low.1) block in
            is_inside a b p (⊎_elim (λ i. i) (λ n. absurd (both_ways _ (not-true _ n) (part_done a b x y block in-x in-y h l))) (or_cases (inside a b p) _ cell));
      }

  is_open_where : (p : ℕ) → Open s done p → is_open s done p ≡ true
  is_open_where p o =
      and_from _ _
      (and_from _ _ (lt-ltb _ _ o.position) (is_lacking done p o.undone))
      (and_from _ _
      (all_from s.size _ (λ i l. implies (s.tied i p) (has done i) (λ h. lt-ltb _ _ (o.due i h))))
      (all_from s.size _ (λ a k. all_from s.size _ (λ b l. implies (s.block a b) _ (λ block. entered a b block (partly s.size done a b) refl)))))
    where
      entered : (a b : ℕ) → s.block a b ≡ true → (t : Bool) → partly s.size done a b ≡ t → (inside a b p || not t) ≡ true
      entered a b block false e = or_right _ _ refl
      entered a b block true e =
          let both = and_parts (some_below s.size (λ x. inside a b x && has done x)) _ e in
          let x = (below_is (λ x. inside a b x && has done x) s.size).0 both.0 in
          let y = (below_is (λ y. inside a b y && not (has done y)) s.size).0 both.1 in
          let u = and_parts (inside a b x.0) (has done x.0) x.2 in
          let v = and_parts (inside a b y.0) (not (has done y.0)) y.2 in
          or_left _ _ (inside_is a b p (o.entered a b x.0 y.0 block (is_inside a b x.0 u.0) (is_inside a b y.0 v.0) (ltb-true _ _ u.1) (lacks_is done y.0 v.1)))

  pub decides_open : (p : ℕ) → Decides (is_open s done p) (Open s done p)
  decides_open p = (open_is p, is_open_where p)

-- whether every driving that goes on from there for so many more positions is one of the orders
abbrev pub covered : Outline → List (List ℕ) → ℕ → List ℕ → Bool
covered s orders zero done = among orders done
covered s orders (suc k) done = all_below s.size (λ p. not (is_open s done p) || covered s orders k (done ++ p ∷ []))

-- whether each entry was open
abbrev pub is_driven : Outline → List ℕ → Bool
is_driven s order = eqb (length order) s.size && all_below (length order) (λ k. is_open s (take k order) (get_or order k 0))

abbrev pub all_driven : Outline → List (List ℕ) → Bool
all_driven s = all_pass (is_driven s)

module _ (s : Outline) (rules : Rules s) where
  covered_at : (orders : List (List ℕ)) (order : List ℕ) → Driven s order → (k : ℕ) (done : List ℕ) → length order ≡ length done + k → take (length done) order ≡ done → covered s orders k done ≡ true → among orders order ≡ true
  covered_at orders order driven zero done e front t =
      let same : order ≡ done = sym (take_all (length done) order (omega arith)) ∙ front in
      rw same t
  covered_at orders order driven (suc k) done e front t =
      let p = get_or order (length done) 0 in
      let l : length done < length order = omega arith in
      let o = subst (λ (d : List ℕ). Open s d p) front (driven (length done) l) in
      let n : length (done ++ p ∷ []) ≡ suc (length done) = omega (arith, length_push done p) in
      covered_at orders order driven k (done ++ p ∷ []) (omega arith)
      (ap (λ m. take m order) n ∙ take-suc order (length done) 0 l ∙ ap (λ (d : List ℕ). d ++ p ∷ []) front)
      (implied (is_open s done p) _ (below_at s.size _ t p o.position) (is_open_where s rules done p o))

  driven_running : (order : List ℕ) → is_driven s order ≡ true → RunningOrder s order
  driven_running order t =
      let both = and_parts (eqb (length order) s.size) _ t in
      driving_ends_running s rules order (λ k l. open_is s rules (take k order) (get_or order k 0) (below_at (length order) _ both.1 k l)) (eqb-true _ _ both.0)

  among_running : (orders : List (List ℕ)) → all_driven s orders ≡ true → (order : List ℕ) → among orders order ≡ true → RunningOrder s order
  among_running [] t order h = absurd (false≢true h)
  among_running (x ∷ orders) t order h =
      let both = and_parts (is_driven s x) (all_driven s orders) t in
      ⊎_elim
      (λ here. rw (lists_same order x here) (driven_running x both.0))
      (λ there. among_running orders both.1 order there)
      (or_cases (same_list order x) (among orders order) h)

  pub decides_running : (orders : List (List ℕ)) → all_driven s orders ≡ true → covered s orders s.size [] ≡ true → (order : List ℕ) → Decides (among orders order) (RunningOrder s order)
  decides_running orders t u order = (
    among_running orders t order,
    (λ running. let d = running_is_driven s rules order running in covered_at orders order d.0 s.size [] (omega (arith, d.1)) refl u),
  )
