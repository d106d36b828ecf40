-- What the check says, as a function that computes: it is what the rules allow.
use Rattle.std.proofs.Common.{◌≡◌, ℕ, suc, ◌<◌, Bool, true, false, cond, ◌&&◌, eqb, ltb, leb, List, [], ◌∷◌, length, get_or, Some, None, Option, sym, refl, ap, ◌∙◌, inl, inr, arith}
use Rattle.std.proofs.lemmas.Bool.{and_parts, eqb-true, le-leb, lt-leb, ltb-true}
use Rattle.orders.proofs.Below.{below_is, refuted}
use Rattle.orders.proofs.Wanting.{test_decides_wanting}
use Rattle.orders.specs.Check.{missing, some_below}
use Rattle.orders.specs.Facts.{Effects, Good, Wanting, needed}
use Rattle.orders.specs.Sheets.{Outline, Rules}
use Rattle.sets.proofs.Members.{member_lt}
use Rattle.sets.specs.Contents.{contents}
use Rattle.sheet.proofs.Effects.{has_small}
use Rattle.sheet.specs.Faults.{number_of, values_of}
use Rattle.sheet.specs.Verdicts.{AllKnown, FirstUnknown, LowestWanting, Passes, Refused, effects_of}
use Rattle.sheet.specs.declared.fault.SheetFault.{SheetFault}
use Rattle.task.specs.declared.tasks.Task.{Task}
use Rattle.smallsheets.specs.Rows.{Answer}
use Rattle.smallsheets.specs.Rows.Answer.{refused}
use Rattle.smallsheets.proofs.Lowest.{lowest, lowest_none, lowest_some}

-- the first unknown number is refused, and the rest goes on
abbrev by_number : List ℕ → Answer → Option ℕ → Answer
by_number numbers later None = later
by_number numbers later (Some k) = refused 2 (get_or numbers k 0 ∷ [])

abbrev pub if_known : ℕ → List ℕ → Answer → Answer
if_known count numbers later = by_number numbers later (lowest (λ k. leb count (get_or numbers k 0)) (length numbers))

-- the lowest place that is wanting anything is refused with the lowest fact that it is wanting, and the rest goes on
abbrev by_fact : ℕ → Answer → Option ℕ → Answer
by_fact p later None = later
by_fact p later (Some f) = refused 3 (p ∷ f ∷ [])

abbrev by_place : (ℕ → ℕ → Bool) → Answer → Option ℕ → Answer
by_place test later None = later
by_place test later (Some p) = by_fact p later (lowest (test p) 64)

abbrev pub if_good : Outline → Effects → Answer → Answer
if_good s e later = by_place (missing s e) later (lowest (λ p. some_below 64 (missing s e p)) (suc s.size))

pub all_known : (task : Task) (numbers : List ℕ) (later : Answer) → AllKnown task numbers → if_known (length (contents task.actions)) numbers later ≡ later
all_known task numbers later known = ap (by_number numbers later) (lowest_none _ (length numbers) (λ k l. lt-leb _ _ (known k l)))

pub unknown_refused : (task : Task) (numbers : List ℕ) (later : Answer) (number : ℕ) → FirstUnknown task numbers number → if_known (length (contents task.actions)) numbers later ≡ refused 2 (number ∷ [])
unknown_refused task numbers later number u =
    ap (by_number numbers later) (lowest_some _ (length numbers) u.at u.within (le-leb _ _ (omega (arith, u.there, u.lacking))) (λ j l. lt-leb _ _ (u.first j l)))
    ∙ ap (λ n. refused 2 (n ∷ [])) u.there

module _ (task : Task) (numbers : List ℕ) (s : Outline) (rules : Rules s) where
  abbrev does : Effects
  does = effects_of task numbers

  needed_small : (p f : ℕ) → needed s does p f ≡ true → (p < suc s.size) × (f < 64)
  needed_small p f = go (ltb p s.size) refl
    where
      go : (b : Bool) → ltb p s.size ≡ b → cond b (does.needs p f) (eqb p s.size && does.goal f) ≡ true → (p < suc s.size) × (f < 64)
      go true e h = (omega (arith, ltb-true p s.size e), has_small (λ a. a.needs) _ f h)
      go false e h = let both = and_parts (eqb p s.size) (does.goal f) h in (omega (arith, eqb-true p s.size both.0), omega (arith, member_lt task.goal f both.1))

  not_wanting : (p f : ℕ) → (Wanting s does p f → ⊥) → missing s does p f ≡ false
  not_wanting p f n = refuted _ (λ h. n ((test_decides_wanting s rules does p f).0 h))

  none_there : (p : ℕ) → ((f : ℕ) → Wanting s does p f → ⊥) → some_below 64 (missing s does p) ≡ false
  none_there p n = refuted _ (λ h. let w = (below_is (missing s does p) 64).0 h in n w.0 ((test_decides_wanting s rules does p w.0).0 w.2))

  pub is_good : (later : Answer) → Good s does → if_good s does later ≡ later
  is_good later good = ap (by_place (missing s does) later) (lowest_none _ (suc s.size) (λ p l. none_there p (good p)))

  pub is_wanting : (later : Answer) (p f : ℕ) → LowestWanting s does p f → if_good s does later ≡ refused 3 (p ∷ f ∷ [])
  is_wanting later p f w =
      let small = needed_small p f w.wanting.0 in
      let here = (test_decides_wanting s rules does p f).1 w.wanting in
      ap (by_place (missing s does) later) (lowest_some _ (suc s.size) p small.0 ((below_is (missing s does p) 64).1 (f, small.1, here)) (λ q l. none_there q (λ g. w.lowest_place q g l)))
      ∙ ap (by_fact p later) (lowest_some (missing s does p) 64 f small.1 here (λ g l. not_wanting p g (w.lowest_fact g l)))

-- what the check says of steps of those numbers in that outline
abbrev pub judge : ℕ → (List ℕ → Effects) → List ℕ → Outline → Answer → Answer
judge count does numbers s later = if_known count numbers (if_good s (does numbers) later)

module _ (task : Task) (numbers : List ℕ) (s : Outline) (rules : Rules s) (later : Answer) where
  abbrev verdict : Answer
  verdict = judge (length (contents task.actions)) (effects_of task) numbers s later

  pub judge_passes : Passes task numbers s → verdict ≡ later
  judge_passes (known, good) = all_known task numbers _ known ∙ is_good task numbers s rules later good

  pub judge_refused : (fault : SheetFault) → Refused task numbers s fault → refused (number_of fault) (values_of fault) ≡ verdict
  judge_refused fault (inl (n, e, u)) = rw e (sym (unknown_refused task numbers _ n u))
  judge_refused fault (inr (p, (f, e, known, w))) = rw e (sym (all_known task numbers _ known ∙ is_wanting task numbers s rules later p f w))
