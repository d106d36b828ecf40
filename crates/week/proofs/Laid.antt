-- The steps of a loaded plan do what the book writes of their actions.
use Rattle.std.proofs.Common.{◌≡◌, ℕ, zero, suc, ◌<◌, ◌≤◌, Bool, true, ◌⊎◌, List, [], ◌∷◌, length, Some, None, Ok, Err, Option, Result, refl, ap, ◌∙◌, subst, inl, inr, is_ok, arith, MatchResult}
use Rattle.std.proofs.lemmas.Bool.{false≢true}
use mathlib.Core.Path.{fun_ext}
use Rattle.std.specs.List.{slice_get}
use Rattle.std.specs.Option.{option_flatten, option_map}
use Rattle.std.specs.Result.{IsErrAnd}
use Rattle.std.proofs.ByRecursion.{All-get_or}
use Rattle.sets.specs.Contents.{contents}
use Rattle.sets.specs.declared.bits.BitSet.{BitSet}
use Rattle.sets.specs.declared.list.ArrayVec.{ArrayVec}
use Rattle.task.specs.declared.actions.Action.{Action}
use Rattle.task.specs.declared.tasks.Task.{Task}
use Rattle.orders.specs.Facts.{Effects, Good}
use Rattle.orders.specs.Sheets.{Outline}
use Rattle.sheet.specs.Verdicts.{FirstUnknown, Lays, LowestWanting, Refused as NotPassed, effects, effects_of, has_fact, in_a_row}
use Rattle.sheet.specs.Sheets.{actions}
use Rattle.sheet.specs.declared.sheet.Sheet.{Sheet}
use Rattle.sheet.specs.declared.fault.SheetFault.{SheetFault}
use Rattle.sheet.specs.declared.fault.SheetFault.TheVariants.{TooLong, WantingFact}
use Rattle.lines.specs.Text.{reply_text}
use Rattle.lines.specs.declared.answer.Reply.{Reply}
use Rattle.lines.specs.declared.answer.Reply.TheVariants.{Unlaid}
use Rattle.records.specs.Lines.{Deed}
use Rattle.book.specs.Loading.{Accepted, Loads}
use Rattle.book.specs.declared.fault.LoadFault.{LoadFault}
use Rattle.book.specs.Tasks.{DescribeAll, Describes, Has, TaskOf}
use Rattle.book.specs.Weeks.{Fits, Week}
use Rattle.book.proofs.Described.{described_length}
use Rattle.week.specs.Laying.{week_effects, week_outline, writes_fact}
use Rattle.week.specs.Output.{LaidAs, NoSheet, NotLaid, WeekOf}

-- why a plan of these numbers cannot be laid
abbrev LayFault : Task → List ℕ → SheetFault → Type 0
LayFault task numbers fault = ((128 < length numbers) × (fault ≡ TooLong)) ⊎ ((length numbers ≤ 128) × NotPassed task numbers (in_a_row (length numbers)) fault)

module _ (part : Action → BitSet 1) (of : Deed → List ℕ) (same : (d : Deed) (a : Action) → Describes d a → Has (part a) (of d)) where
  same_fact : (ds : List Deed) (actions : List Action) → DescribeAll ds actions → (n f : ℕ) → has_fact part (slice_get actions n) f ≡ writes_fact of (slice_get ds n) f
  same_fact [] [] h n f = refl
  same_fact [] (a ∷ actions) h n f = absurd h
  same_fact (d ∷ ds) [] h n f = absurd h
  same_fact (d ∷ ds) (a ∷ actions) h zero f = same d a h.0 f
  same_fact (d ∷ ds) (a ∷ actions) h (suc n) f = same_fact ds actions h.1 n f

  at_step : (ds : List Deed) (actions : List Action) → DescribeAll ds actions → (step : Option ℕ) (f : ℕ)
      → has_fact part (option_flatten (option_map (slice_get actions) step)) f ≡ writes_fact of (option_flatten (option_map (slice_get ds) step)) f
  at_step ds actions h None f = refl
  at_step ds actions h (Some n) f = same_fact ds actions h n f

  same_facts : (w : Week) (task : Task) → TaskOf w task
      → ◌≡◌ {A = ℕ → ℕ → Bool} (λ p. has_fact part (option_flatten (option_map (slice_get (contents task.actions)) (slice_get w.steps p)))) (λ p. writes_fact of (option_flatten (option_map (slice_get w.deeds) (slice_get w.steps p))))
  same_facts w task t = fun_ext (λ p. fun_ext (at_step w.deeds (contents task.actions) t.actions (slice_get w.steps p)))

pub same_effects : (w : Week) (task : Task) → TaskOf w task → effects_of task w.steps ≡ week_effects w
same_effects w task t =
    let n = same_facts (λ a. a.needs) (λ d. d.needs) (λ d a h. h.needs) w task t in
    let a = same_facts (λ a. a.adds) (λ d. d.adds) (λ d a h. h.adds) w task t in
    let d = same_facts (λ a. a.deletes) (λ d. d.deletes) (λ d a h. h.deletes) w task t in
    let s = fun_ext t.start in
    let g = fun_ext t.goal in
    λ i. record { needs = n i; adds = a i; deletes = d i; start = s i; goal = g i }

-- a week's steps name only its actions
pub none_unknown : (w : Week) → Fits w → (task : Task) → TaskOf w task → (number : ℕ) → FirstUnknown task w.steps number → ⊥
none_unknown w fits task t number u =
    omega (arith, All-get_or _ w.steps u.at 0 u.within fits.step, u.there, u.lacking, described_length w.deeds (contents task.actions) t.actions)

-- the week's plan is good as it is laid
pub good_as_laid : (w : Week) (task : Task) (sheet : Sheet) → LaidAs w task sheet → Good (week_outline w) (week_effects w)
good_as_laid w task sheet is =
    subst (λ (e : Effects). Good (week_outline w) e) (same_effects w task is.of_week)
    (subst (λ (l : List ℕ). Good (week_outline w) (effects_of task l)) is.steps (subst (λ (s : Outline). Good s (effects task sheet)) is.order is.passes.1))

-- a book whose loading is no refusal is accepted
pub accepted_where_ok : (book : List ℕ) (task : Task) (plan : ArrayVec ℕ 128) (r : Result (Unit {0}) LoadFault) → is_ok r ≡ true → Loads book r task plan → Accepted book task plan
accepted_where_ok book task plan (Ok x) e loads = loads
accepted_where_ok book task plan (Err f) e loads = absurd (false≢true e)

module _ (book : List ℕ) (task : Task) (plan : ArrayVec ℕ 128) (accepted : Accepted book task plan) (numbers : List ℕ) (are : numbers ≡ contents plan) where
  steps : numbers ≡ accepted.1.0.steps
  steps = are ∙ accepted.1.3.1

  as_week : (P : Outline → Effects → Type 0) → P (in_a_row (length numbers)) (effects_of task numbers) → P (week_outline accepted.1.0) (week_effects accepted.1.0)
  as_week P h = subst (λ e. P (week_outline accepted.1.0) e) (same_effects accepted.1.0 task accepted.1.3.0) (subst (λ xs. P (in_a_row (length xs)) (effects_of task xs)) steps h)

  in_week : (Holds : Week → Type 0) → Holds accepted.1.0 → WeekOf book Holds
  in_week Holds h = (accepted.0, (accepted.1.0, accepted.1.1, accepted.1.2, h))

  -- a loaded plan is refused for want of a fact, if at all
  lowest : (fault : SheetFault) → LayFault task numbers fault → (place : ℕ) × ((fact : ℕ) × (fault ≡ WantingFact place fact) × LowestWanting (in_a_row (length numbers)) (effects_of task numbers) place fact)
  lowest fault (inl (long, f)) = absurd (omega (arith, accepted.1.1.steps, ap length steps))
  lowest fault (inr (short, inl (number, f, first))) = absurd (none_unknown accepted.1.0 accepted.1.1 task accepted.1.3.0 number (subst (λ xs. FirstUnknown task xs number) steps first))
  lowest fault (inr (short, inr (p, (q, f, known, low)))) = (p, (q, f, low))

  pub only_wanting : (r : Result Sheet SheetFault) → Lays task numbers r → (fault : SheetFault) → r ≡ Err fault → (place : ℕ) × ((fact : ℕ) × (fault ≡ WantingFact place fact))
  only_wanting r lays fault is =
      let (p, (q, f, low)) = lowest fault (subst (Lays task numbers) is lays) in
      (p, (q, f))

  pub unlaid : (r : Result Sheet SheetFault) → Lays task numbers r → (mapped : Result Sheet Reply) (why : Reply) → mapped ≡ Err why
      → MatchResult r (λ sheet. mapped ≡ Ok sheet) (λ fault. IsErrAnd mapped (λ why. (place fact : ℕ) → fault ≡ WantingFact place fact → why ≡ Unlaid place fact))
      → NoSheet book (reply_text why)
  unlaid (Ok sheet) lays mapped why is same = absurd (cc)
  unlaid (Err fault) refused mapped why is maps =
      let (p, (q, f, low)) = lowest fault refused in
      let says = subst (λ (m : Result Sheet Reply). IsErrAnd m (λ why. (place fact : ℕ) → fault ≡ WantingFact place fact → why ≡ Unlaid place fact)) is maps in
      inr (in_week (NotLaid (reply_text why)) (p, (q, as_week (λ s e. LowestWanting s e p q) low, ap reply_text (says p q f))))
