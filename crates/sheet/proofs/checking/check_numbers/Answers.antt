use Rattle.std.proofs.Common.{zero, suc, Bool, true, false, [], ◌∷◌, sym, ◌≡◌, ℕ, ◌<◌, ◌≤◌, List, length, Some, None, Option, Ok, Err, Result, refl, rules, arith, MatchOption}
use Rattle.std.proofs.lemmas.Iterator.{first_from_find}
use Rattle.std.specs.List.{AllWithin, HoldsAt, slice_get}
use Rattle.std.proofs.lemmas.Iterator.{YieldsList}
use Rattle.sheet.proofs.checking.check_numbers.Goals as goal
use Rattle.sets.specs.Contents.{contents}
use Rattle.sheet.specs.Verdicts.{AllKnown, ChecksActions, FirstUnknown}
use Rattle.sheet.specs.declared.fault.SheetFault.{SheetFault}
use Rattle.sheet.specs.declared.fault.SheetFault.TheVariants.{UnknownAction}
use Rattle.task.specs.declared.tasks.Task.{Task}
use Rattle.std.specs.Option.{is_none}
use Rattle.std.proofs.lemmas.Bool.{false≢true}

lacks : {X : Type 0} (xs : List X) (i : ℕ) → is_none (slice_get xs i) ≡ true → length xs ≤ i
lacks [] i e = omega arith
lacks (x ∷ xs) zero e = absurd (false≢true e)
lacks (x ∷ xs) (suc i) e = omega (arith, lacks xs i e)

has : {X : Type 0} (xs : List X) (i : ℕ) → is_none (slice_get xs i) ≡ false → i < length xs
has [] i e = absurd (false≢true (sym e))
has (x ∷ xs) zero e = omega arith
has (x ∷ xs) (suc i) e = omega (arith, has xs i e)

-- what `find` says, of the action numbers
module _ (task : Task) (all : List ℕ) where
  abbrev test : ℕ → Bool
  test x = is_none (slice_get (contents task.actions) x)

  unknown : (found : Option ℕ) →
      MatchOption found (AllWithin (λ x. test x ≡ false) all 0 (length all)) (λ x. (test x ≡ true) × (i : ℕ) × (i < length all) × HoldsAt (λ y. y ≡ x) all i × AllWithin (λ x. test x ≡ false) all 0 i) →
      MatchOption found (AllKnown task all) (FirstUnknown task all)
  unknown None h = λ k l. has (contents task.actions) _ (h k 0 (omega arith) l)
  unknown (Some x) (lacking, i, l, here, before) = record {
    at = i;
    within = l;
    there = here 0;
    lacking = lacks (contents task.actions) x lacking;
    first = λ k m. has (contents task.actions) _ (before k 0 (omega arith) m);
  }

-- and what is answered then
answered : (task : Task) (all : List ℕ) (found : Option ℕ) (r : Result (Unit {0}) SheetFault) (Gives : ℕ → Type 0) →
    MatchOption found (AllKnown task all) (FirstUnknown task all) →
    MatchOption found (r ≡ Ok tt) Gives → ((x : ℕ) → Gives x → r ≡ Err (UnknownAction x)) → ChecksActions task all r
answered task all None r Gives h e says = rw e h
answered task all (Some x) r Gives h e says = rw (says x e) (x, refl, h)

pub returns : goal.returns
returns g c all h =
    let task = c.args.task.now in
    let road : YieldsList g.I.Iterator.next_gives (λ n. n) c.args.numbers all = record { runs = h } in
    let found = unknown task all _ (first_from_find c.find.new.self _ _ (λ x. test task all x ≡ true) (λ x. test task all x ≡ false) c.find.ensures.ran road (λ x q k. search rules) (λ x q k. search rules)) in
    answered task all c.find.result c.map_or.result _ found c.map_or.ensures (λ x e. search rules)
