-- What an edit can see of a task and of a sheet, and that a small task and a small sheet show the same.
use Rattle.std.proofs.Common.{◌≡◌, ℕ, zero, suc, Bool, false, ◌&&◌, ◌||◌, List, [], ◌∷◌, length, Some, None, Option, unwrap_or, refl, ap, ◌∙◌}
use Rattle.std.specs.List.{slice_get}
use Rattle.std.specs.Option.{option_flatten, option_map}
use Rattle.orders.specs.Facts.{Effects}
use Rattle.orders.specs.Lists.{listed, paired}
use Rattle.orders.specs.Sheets.{Outline}
use Rattle.sets.proofs.Laws.{tally_same}
use Rattle.sets.specs.Contents.{contents}
use Rattle.sets.specs.Member.{tally}
use Rattle.sets.specs.declared.bits.BitSet.{BitSet}
use Rattle.sheet.specs.Sheets.{actions, outline}
use Rattle.sheet.specs.Verdicts.{effects_of, has_fact}
use Rattle.sheet.specs.declared.sheet.Sheet.{Sheet}
use Rattle.task.specs.Prices.{touched, touches}
use Rattle.task.specs.declared.actions.Action.{Action}
use Rattle.task.specs.declared.tasks.Task.{Task}
use Rattle.smallsheets.specs.Small.{AreActions, ArePrices, IsAction, IsSet, IsSheet, IsTask, SmallAction, SmallSheet, SmallTariff, SmallTask}
use Rattle.smallsheets.specs.Small.SmallTariff.{book, touch}

-- how many actions there are, what the steps of some numbers do, and what each number costs
pub record View : Type 0 where
  pub count : ℕ
  pub does : List ℕ → Effects
  pub prices : ℕ → ℕ

-- a sheet's action numbers and outline
pub record Page : Type 0 where
  pub numbers : List ℕ
  pub order : Outline

abbrev pub view_of : Task → (ℕ → ℕ) → View
view_of task prices = record { count = length (contents task.actions); does = effects_of task; prices = prices }

abbrev pub page_of : Sheet → Page
page_of sheet = record { numbers = actions sheet; order = outline sheet }

abbrev small_fact : (SmallAction → List ℕ) → Option SmallAction → ℕ → Bool
small_fact part None f = false
small_fact part (Some a) f = listed (part a) f

abbrev small_at : SmallTask → List ℕ → ℕ → Option SmallAction
small_at small numbers p = option_flatten (option_map (slice_get small.actions) (slice_get numbers p))

abbrev pub small_does : SmallTask → List ℕ → Effects
small_does small numbers = record {
  needs = λ p. small_fact (λ a. a.needs) (small_at small numbers p);
  adds = λ p. small_fact (λ a. a.adds) (small_at small numbers p);
  deletes = λ p. small_fact (λ a. a.deletes) (small_at small numbers p);
  start = listed small.start;
  goal = listed small.goal;
}

abbrev small_touched : List ℕ → SmallAction → ℕ → Bool
small_touched facts a f = listed facts f && (listed a.adds f || listed a.deletes f)

abbrev small_price : SmallTariff → SmallAction → ℕ
small_price book a = a.price
small_price (touch facts) a = tally (small_touched facts a) 64

abbrev pub small_view : SmallTask → SmallTariff → View
small_view small tariff = record {
  count = length small.actions;
  does = small_does small;
  prices = λ n. unwrap_or (option_map (small_price tariff) (slice_get small.actions n)) 0;
}

abbrev pub outline_of : SmallSheet → Outline
outline_of small = record { size = length small.actions; tied = paired small.ties; block = paired small.blocks }

abbrev pub small_page : SmallSheet → Page
small_page small = record { numbers = small.actions; order = outline_of small }

same_count : (small : List SmallAction) (more : List Action) → AreActions small more → length more ≡ length small
same_count [] [] is = refl
same_count [] (a ∷ more) is = absurd is
same_count (s ∷ small) [] is = absurd is
same_count (s ∷ small) (a ∷ more) is = ap suc (same_count small more is.1)

module _ (part : Action → BitSet 1) (small-part : SmallAction → List ℕ) (agree : (s : SmallAction) (a : Action) → IsAction s a → IsSet (small-part s) (part a)) where
  same_fact : (small : List SmallAction) (more : List Action) → AreActions small more → (n f : ℕ) → has_fact part (slice_get more n) f ≡ small_fact small-part (slice_get small n) f
  same_fact [] [] is n f = refl
  same_fact [] (a ∷ more) is n f = absurd is
  same_fact (s ∷ small) [] is n f = absurd is
  same_fact (s ∷ small) (a ∷ more) is zero f = agree s a is.0 f
  same_fact (s ∷ small) (a ∷ more) is (suc n) f = same_fact small more is.1 n f

  same_at : (small : SmallTask) (task : Task) → IsTask small task → (o : Option ℕ) (f : ℕ)
      → has_fact part (option_flatten (option_map (slice_get (contents task.actions)) o)) f ≡ small_fact small-part (option_flatten (option_map (slice_get small.actions) o)) f
  same_at small task is None f = refl
  same_at small task is (Some n) f = same_fact small.actions (contents task.actions) is.actions n f

same_does : (small : SmallTask) (task : Task) → IsTask small task → (numbers : List ℕ) → effects_of task numbers ≡ small_does small numbers
same_does small task is numbers = λ i. record {
  needs = λ p f. same_at (λ a. a.needs) (λ a. a.needs) (λ s a h. h.needs) small task is (slice_get numbers p) f i;
  adds = λ p f. same_at (λ a. a.adds) (λ a. a.adds) (λ s a h. h.adds) small task is (slice_get numbers p) f i;
  deletes = λ p f. same_at (λ a. a.deletes) (λ a. a.deletes) (λ s a h. h.deletes) small task is (slice_get numbers p) f i;
  start = λ f. is.start f i;
  goal = λ f. is.goal f i;
}

module _ (price : Action → ℕ) (cost : SmallAction → ℕ) (agree : (s : SmallAction) (a : Action) → IsAction s a → price a ≡ cost s) where
  same_price : (small : List SmallAction) (more : List Action) → AreActions small more → (n : ℕ) → unwrap_or (option_map price (slice_get more n)) 0 ≡ unwrap_or (option_map cost (slice_get small n)) 0
  same_price [] [] is n = refl
  same_price [] (a ∷ more) is n = absurd is
  same_price (s ∷ small) [] is n = absurd is
  same_price (s ∷ small) (a ∷ more) is zero = agree s a is.0
  same_price (s ∷ small) (a ∷ more) is (suc n) = same_price small more is.1 n

same_prices : (small : SmallTask) (task : Task) → IsTask small task → (tariff : SmallTariff) (prices : ℕ → ℕ) → ArePrices tariff task prices → (n : ℕ) → prices n ≡ (small_view small tariff).prices n
same_prices small task is book prices e n = ap (λ (f : ℕ → ℕ). f n) e ∙ same_price (λ a. a.price) (small_price book) (λ s a h. h.price) small.actions _ is.actions n
same_prices small task is (touch facts) prices (marked, has, e) n =
    ap (λ (f : ℕ → ℕ). f n) e
    ∙ same_price (touches marked) (small_price (touch facts)) (λ s a h. tally_same (touched marked a) (small_touched facts s) 64 (λ f l. rw (has f, h.adds f, h.deletes f) refl)) small.actions _ is.actions n

pub same_view : (small : SmallTask) (task : Task) → IsTask small task → (tariff : SmallTariff) (prices : ℕ → ℕ) → ArePrices tariff task prices → view_of task prices ≡ small_view small tariff
same_view small task is tariff prices are = λ i. record {
  count = same_count small.actions (contents task.actions) is.actions i;
  does = λ numbers. same_does small task is numbers i;
  prices = λ n. same_prices small task is tariff prices are n i;
}

pub same_page : (small : SmallSheet) (sheet : Sheet) → IsSheet small sheet → page_of sheet ≡ small_page small
same_page small sheet is = λ i. record {
  numbers = is.same_actions i;
  order = record { size = length (is.same_actions i); tied = λ a b. is.same_ties a b i; block = λ a b. is.same_blocks a b i };
}
