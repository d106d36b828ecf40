-- What a driving says of the places of its entries.
use Rattle.std.proofs.Common.{◌≡◌, ℕ, zero, suc, ◌<◌, ◌≤◌, min, true, List, [], ◌∷◌, length, get_or, take, arith}
use Rattle.std.proofs.lemmas.List.{length-take-le}
use Rattle.orders.proofs.Places.{cases_place, get_or-place}
use Rattle.orders.specs.Driving.{Driven, Open}
use Rattle.orders.specs.Running.{Earlier, Has, place}
use Rattle.orders.specs.Sheets.{Inside, Outline}

pub place-take : (x k : ℕ) (l : List ℕ) → place x (take k l) ≡ min k (place x l)
place-take x zero l = omega arith
place-take x (suc k) [] = omega arith
place-take x (suc k) (y ∷ l) = omega (arith, place-take x k l, cases_place x y l, cases_place x y (take k l))

pub place_entry : (k : ℕ) (l : List ℕ) → k < length l → place (get_or l k 0) l ≤ k
place_entry k [] h = omega arith
place_entry zero (y ∷ l) h = omega (arith, cases_place y y l)
place_entry (suc k) (y ∷ l) h = omega (arith, place_entry k l (omega arith), cases_place (get_or l k 0) y l)

-- what `Has` and `Lacks` come to in the front of k entries
pub front_is : (x k : ℕ) (l : List ℕ) → k ≤ length l → (place x (take k l) ≡ min k (place x l)) × (length (take k l) ≡ k)
front_is x k l h = (place-take x k l, length-take-le k l h)

module _ (s : Outline) (done : List ℕ) (driven : Driven s done) where
  pub was_open : (p : ℕ) → Has done p → Open s (take (place p done) done) p
  was_open p h = rw (get_or-place p done h) at (driven (place p done) h)

  pub entry_once : (k : ℕ) → k < length done → place (get_or done k 0) done ≡ k
  entry_once k h = omega (arith, place_entry k done h, front_is (get_or done k 0) k done (omega arith), (driven k h).undone)

  pub tied_earlier : (i j : ℕ) → s.tied i j ≡ true → Has done j → Earlier done i j
  tied_earlier i j t h = omega (arith, front_is i (place j done) done (omega arith), (was_open j h).due i t)

  pub block_entered : (a b x y p : ℕ) → s.block a b ≡ true → Inside a b x → Inside a b y → Has done p → Earlier done x p → place p done ≤ place y done → Inside a b p
  block_entered a b x y p k i j h l m = (was_open p h).entered a b x y k i j
      (omega (arith, front_is x (place p done) done (omega arith)))
      (omega (arith, front_is y (place p done) done (omega arith)))
