-- How the steps of a sheet are taken and done one after another, and where that ends.
use Rattle.std.specs.Prelude.{◌≡◌, ℕ, ◌<◌, true, ◌⊎◌, Ok, Result, MatchBool, MatchResult}
use Rattle.driving.specs.Calls.{Moment, Open, RefusedAt, TakesAndDoes, Work, opening}
use Rattle.driving.specs.Drivings.{AllDone, AsLaid, Begins, Undone}
use Rattle.driving.specs.Meanings.{Meaning}
use Rattle.driving.specs.Theorems.{AllKnown}
use Rattle.orders.specs.Facts.{Good}
use Rattle.runs.specs.Faults.{why}
use Rattle.runs.specs.declared.fault.RunFault.{RunFault as Fault}
use Rattle.runs.specs.declared.fault.RunFault.TheVariants.{NoPosition, NotOpen}
use Rattle.sets.specs.Sets.{has}
use Rattle.sets.specs.declared.bits.BitSet.{BitSet}

-- a set has just the positions that are open
abbrev pub AreOpen : Work → Moment → BitSet 2 → Type 0
AreOpen w m set = (p : ℕ) → MatchBool (has set p) (Open w.order m p) (Open w.order m p → ⊥)

-- the closure is asked while a position is undone, with those that are open, and picks p; d is what it is then
pub record Picks {C : Type 0} (picks : C → BitSet 2 → ℕ → C → Type 0) (w : Work) (m : Moment)
    (c : C) (p : ℕ) (d : C) : Type 0 where
  pub undone : Undone w m
  pub ready : BitSet 2
  pub are_open : AreOpen w m ready
  pub picked : picks c ready p d

-- each step that the closure picked was taken and done, and this is where it has led the closure and the driving
pub data Follows {C : Type 0} (picks : C → BitSet 2 → ℕ → C → Type 0) (w : Work) (rig : Meaning) (first : C) :
    C → Moment → Type 0 where
  begun : Follows picks w rig first first (opening rig)
  went : {c : C} {m : Moment} (p : ℕ) (d : C) (n : Moment) → Follows picks w rig first c m → Picks picks w m c p d →
      TakesAndDoes w m p (Ok tt) n → Follows picks w rig first d n

-- the rig is left where all positions are done, or where the step that the closure picked is refused
abbrev pub Ends : {C : Type 0} → (C → BitSet 2 → ℕ → C → Type 0) → Work → Meaning → C →
    Result (Unit {0}) Fault → Meaning → Type 0
Ends {C} picks w rig first r rig' = (c : C) × ((last : Moment) × Follows picks w rig first c last × (last.rig ≡ rig')
    × MatchResult r
    (λ _. AllDone w last)
    (λ fault. (p : ℕ) × ((d : C) × Picks picks w last c p d × RefusedAt w last p (why fault))))

-- the driving has led the closure to where it picked a position that is not open, though one is
abbrev pub PicksAmiss : {C : Type 0} → (C → BitSet 2 → ℕ → C → Type 0) → Work → Meaning → C → Meaning → Type 0
PicksAmiss {C} picks w rig first rig' = (c : C) × ((last : Moment) × Follows picks w rig first c last × (last.rig ≡ rig')
    × ((p : ℕ) × ((d : C) × Picks picks w last c p d × (Open w.order last p → ⊥) × ((q : ℕ) × Open w.order last q))))

-- all goal facts stand at the end, or the closure picked amiss, and the refusal is that of its pick
abbrev pub EndedWell : {C : Type 0} → (C → BitSet 2 → ℕ → C → Type 0) → Work → Meaning → C →
    Result (Unit {0}) Fault → Meaning → Type 0
EndedWell picks w rig first r rig' = MatchResult r
    (λ _. (f : ℕ) → w.effects.goal f ≡ true → rig'.standing f ≡ true)
    (λ fault. ((fault ≡ NoPosition) ⊎ (fault ≡ NotOpen)) × PicksAmiss picks w rig first rig')

-- so it does over a good sheet of known actions, on a rig with just the start facts and enough steps left
abbrev pub EndsWell : {C : Type 0} → (C → BitSet 2 → ℕ → C → Type 0) → Work → Meaning → C →
    Result (Unit {0}) Fault → Meaning → Type 0
EndsWell picks w rig first r rig' = AllKnown w → Good w.order w.effects → Begins w rig → EndedWell picks w rig first r rig'

-- the rig is left behind the last step in home order, or where one is refused
abbrev pub DoesAsLaid : Work → Meaning → Result (Unit {0}) Fault → Meaning → Type 0
DoesAsLaid w rig r rig' = (k : ℕ) × ((last : Moment) × AsLaid w rig k last × (last.rig ≡ rig')
    × MatchResult r (λ _. k ≡ w.order.size) (λ fault. (k < w.order.size) × RefusedAt w last k (why fault)))

-- over a good sheet of known actions, on a rig with just the start facts and enough steps left, no step is refused,
-- and all goal facts stand at the end
abbrev pub DoesWell : Work → Meaning → Result (Unit {0}) Fault → Meaning → Type 0
DoesWell w rig r rig' = AllKnown w → Good w.order w.effects → Begins w rig →
    (r ≡ Ok tt) × ((f : ℕ) → w.effects.goal f ≡ true → rig'.standing f ≡ true)
