-- What steps do in a task, and the facts that it leaves wanting.
use Rattle.std.proofs.Common.{◌≡◌, ℕ, zero, suc, ◌+◌, ◌<◌, ◌≤◌, Bool, true, false, not, ◌&&◌, ◌||◌, ◌⊎◌, List, length, Some, None, Option, refl, ap, inl, inr, add-one, arith}
use Rattle.std.proofs.lemmas.Option.{slice_get_past}
use Rattle.std.proofs.lemmas.Bool.{cases_Bool, false≢true}
use Rattle.std.specs.List.{slice_get}
use Rattle.std.specs.Option.{option_flatten, option_map}
use Rattle.orders.specs.Check.{some_below}
use Rattle.sets.proofs.Members.{member_lt}
use Rattle.sets.specs.Contents.{contents}
use Rattle.sets.specs.declared.bits.BitSet.{BitSet}
use Rattle.sheet.specs.Verdicts.{action_at, has_fact}
use Rattle.task.specs.declared.actions.Action.{Action}
use Rattle.task.specs.declared.tasks.Task.{Task}

-- past the last step there is nothing
pub nothing_past : (part : Action → BitSet 1) (task : Task) (numbers : List ℕ) (p : ℕ) → length numbers ≤ p → (f : ℕ) → has_fact part (action_at task numbers p) f ≡ false
nothing_past part task numbers p l f = ap (λ o. has_fact part (option_flatten (option_map (slice_get (contents task.actions)) o)) f) (slice_get_past numbers p l)

-- no set of an action has a fact from 64 on
pub has_small : (part : Action → BitSet 1) (o : Option Action) (f : ℕ) → has_fact part o f ≡ true → f < 64
has_small part None f h = absurd (false≢true h)
has_small part (Some a) f h = omega (arith, member_lt (part a) f h)

-- what is wanting after one more taker
pub more_wanting : (needed never before here : Bool) → ((needed && (never || before)) || (needed && here)) ≡ (needed && (never || (here || before)))
more_wanting needed never before here = grind (arith, cases_Bool needed, cases_Bool never, cases_Bool before, cases_Bool here)

pub below_more : (test : ℕ → Bool) (n : ℕ) → some_below (n + 1) test ≡ (test n || some_below n test)
below_more test n = ap (λ (m : ℕ). some_below m test) (add-one n)

pub below_same : (n : ℕ) (a b : ℕ → Bool) → ((k : ℕ) → k < n → a k ≡ b k) → some_below n a ≡ some_below n b
below_same zero a b h = refl
below_same (suc n) a b h = cc (h n (omega arith), below_same n a b (λ k l. h k (omega arith)))

-- only a needed fact that nothing brings is wanting at first
pub first_wanting_lem : (needed start brought : Bool) → (needed && not (start || brought)) ≡ (needed && ((not start && not brought) || false))
first_wanting_lem needed start brought = grind (arith, cases_Bool needed, cases_Bool start, cases_Bool brought)

-- what d takes down is lost unless it is brought back
pub is_lost : (needed taken same behind back : Bool) → same ≡ false → behind ≡ false → ((needed && taken) && not back) ≡ (needed && (taken && not same && not behind && not back))
is_lost needed taken same behind back h g = grind (arith, cases_Bool needed, cases_Bool taken, cases_Bool back)

pub not_lost : (needed taken same behind back : Bool) → ((needed && taken) ≡ false) ⊎ ((same ≡ true) ⊎ (behind ≡ true)) → (needed && (taken && not same && not behind && not back)) ≡ false
not_lost needed taken same behind back (inl h) = grind (arith, cases_Bool needed, cases_Bool taken)
not_lost needed taken same behind back (inr (inl h)) = grind (arith, cases_Bool needed, cases_Bool taken)
not_lost needed taken same behind back (inr (inr h)) = grind (arith, cases_Bool needed, cases_Bool taken, cases_Bool same)
