-- There is a task for every small task that fits, and there are prices for every small tariff.
use Rattle.std.proofs.Common.{◌≡◌, ℕ, zero, suc, ◌-◌, ◌/◌, ◌%◌, ◌^◌, ◌<◌, ◌≤◌, Bool, true, ◌&&◌, ltb, leb, List, [], ◌∷◌, ◌++◌, length, get_or, replicate, sym, refl, ap, ◌∙◌, subst, ⊎_elim, arith}
use lib.Bits.{bit_or}
use Rattle.std.proofs.lemmas.Nat.{or_lt, pow_below}
use Rattle.std.proofs.lemmas.List.{length-append, length-replicate, take_all, take-append-le}
use Rattle.std.proofs.lemmas.Bool.{and_parts, cases_lt, leb-true, ltb-true}
use Rattle.orders.proofs.Below.{refuted}
use Rattle.orders.proofs.Tested.{all_low, all_pass, low_at}
use Rattle.orders.specs.Lists.{listed}
use Rattle.sets.proofs.Kept.{zeros_at}
use Rattle.sets.proofs.Laws.{bit_one, bit-or, bit_same, bit_zero}
use Rattle.sets.specs.Contents.{contents}
use Rattle.sets.specs.Member.{bit, member}
use Rattle.sets.specs.declared.bits.BitSet.{BitSet}
use Rattle.sets.specs.declared.list.ArrayVec.{ArrayVec}
use Rattle.task.specs.Prices.{priced, touches}
use Rattle.task.specs.declared.actions.Action.{Action}
use Rattle.task.specs.declared.tasks.Task.{Task}
use Rattle.smallsheets.specs.Small.{AreActions, ArePrices, IsAction, IsTask, SmallAction, SmallTariff, SmallTask}
use Rattle.smallsheets.specs.Small.SmallTariff.{book, touch}

-- the word with those bits
abbrev word : List ℕ → ℕ
word [] = 0
word (f ∷ fs) = bit_or (2 ^ f) (word fs)

bit_word : (fs : List ℕ) (k : ℕ) → bit (word fs) k ≡ listed fs k
bit_word [] k = bit_zero k
bit_word (f ∷ fs) k = bit-or (2 ^ f) (word fs) k ∙ rw (bit_one f k, bit_word fs k) refl

word_fits : (fs : List ℕ) → all_low 64 fs ≡ true → word fs < 2 ^ 64
word_fits [] t = omega arith
word_fits (f ∷ fs) t = let both = and_parts (ltb f 64) (all_low 64 fs) t in or_lt 64 (2 ^ f) (word fs) (pow_below f 64 (ltb-true f 64 both.0)) (word_fits fs both.1)

module _ (fs : List ℕ) (t : all_low 64 fs ≡ true) (n : ℕ) where
  abbrev words : List ℕ
  words = word fs ∷ replicate n 0

  member_words : (i : ℕ) → member words i ≡ listed fs i
  member_words i = ⊎_elim
      (λ l. let e : i / 64 ≡ 0 = omega arith in let m : i % 64 ≡ i = omega arith in rw (e, m) (bit_word fs i))
      (λ l. let e : i / 64 ≡ suc (i / 64 - 1) = omega arith in rw e (bit_same (i % 64) (zeros_at n (i / 64 - 1)) ∙ bit_zero (i % 64) ∙ sym (refuted _ (λ h. omega (arith, low_at 64 fs i t h)))))
      (cases_lt i 64)

  words_fit : (k : ℕ) → get_or words k 0 < 2 ^ 64
  words_fit zero = word_fits fs t
  words_fit (suc k) = omega (arith, zeros_at n k)

  pub made_set : (set : BitSet (suc n)) × ((i : ℕ) → member set.words i ≡ listed fs i)
  made_set = (
    record { words = words; size = ap suc (length-replicate n 0); fits = words_fit; usable = λ i h. omega (arith, low_at 64 fs i t (sym (member_words i) ∙ h)) },
    member_words,
  )

-- a list of fixed room
module _ {X : Type 0} (xs : List X) (n : ℕ) (l : length xs ≤ n) (spare : X) where
  pub made_list : (list : ArrayVec X n) × (contents list ≡ xs)
  made_list = (
    record {
      items = xs ++ replicate (n - length xs) spare;
      len = length xs;
      ok = l;
      size = length-append xs (replicate (n - length xs) spare) ∙ omega (arith, length-replicate (n - length xs) spare);
    },
    take-append-le (length xs) xs (replicate (n - length xs) spare) (omega arith) ∙ take_all (length xs) xs (omega arith),
  )

-- whether there is an action, and a task, for the small one
abbrev pub fits_action : SmallAction → Bool
fits_action a = leb a.price 1000000 && (all_low 64 a.needs && (all_low 64 a.adds && all_low 64 a.deletes))

abbrev pub fits_actions : List SmallAction → Bool
fits_actions = all_pass fits_action

abbrev pub fits_task : SmallTask → Bool
fits_task small = (fits_actions small.actions && leb (length small.actions) 128) && (all_low 64 small.start && all_low 64 small.goal)

made_action : (a : SmallAction) → fits_action a ≡ true → (action : Action) × IsAction a action
made_action a t =
    let u = and_parts (leb a.price 1000000) _ t in
    let v = and_parts (all_low 64 a.needs) _ u.1 in
    let w = and_parts (all_low 64 a.adds) (all_low 64 a.deletes) v.1 in
    let needs = made_set a.needs v.0 0 in
    let adds = made_set a.adds w.0 0 in
    let deletes = made_set a.deletes w.1 0 in (
      record { needs = needs.0; adds = adds.0; deletes = deletes.0; price = a.price; affordable = leb-true _ _ u.0 },
      record { price = refl; needs = needs.1; adds = adds.1; deletes = deletes.1 },
    )

made_actions : (small : List SmallAction) → fits_actions small ≡ true → (more : List Action) × AreActions small more × (length more ≡ length small)
made_actions [] t = ([], tt, refl)
made_actions (a ∷ small) t =
    let both = and_parts (fits_action a) (fits_actions small) t in
    let (action, is) = made_action a both.0 in
    let (more, are, e) = made_actions small both.1 in
    (action ∷ more, (is, are), ap suc e)

pub made_task : (small : SmallTask) → fits_task small ≡ true → (task : Task) × IsTask small task
made_task small t =
    let u = and_parts (fits_actions small.actions && leb (length small.actions) 128) _ t in
    let v = and_parts (fits_actions small.actions) _ u.0 in
    let w = and_parts (all_low 64 small.start) (all_low 64 small.goal) u.1 in
    let (more, are, e) = made_actions small.actions v.0 in
    let room : length more ≤ 128 = omega (arith, leb-true _ _ v.1) in
    let spare = (made_action (record { price = 0; needs = []; adds = []; deletes = [] }) refl).0 in
    let list = made_list more 128 room spare in
    let start = made_set small.start w.0 0 in
    let goal = made_set small.goal w.1 0 in (
      record { facts = 64; actions = list.0; start = start.0; goal = goal.0; few = omega arith },
      record { actions = subst (AreActions small.actions) (sym list.1) are; start = start.1; goal = goal.1 },
    )

abbrev pub fits_tariff : SmallTariff → Bool
fits_tariff book = true
fits_tariff (touch facts) = all_low 64 facts

pub made_prices : (tariff : SmallTariff) → fits_tariff tariff ≡ true → (task : Task) → (prices : ℕ → ℕ) × ArePrices tariff task prices
made_prices book t task = (priced (λ a. a.price) task, refl)
made_prices (touch facts) t task = let marked = made_set facts t 0 in (priced (touches marked.0) task, (marked.0, marked.1, refl))
