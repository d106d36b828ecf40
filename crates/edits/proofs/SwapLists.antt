-- The actions of a sheet after swap.
use Rattle.std.proofs.Common.{◌≡◌, ℕ, suc, ◌+◌, ◌-◌, ◌<◌, ◌≤◌, List, [], ◌∷◌, ◌++◌, map, length, get_or, take, drop, Some, sum_by, unwrap_or, sym, refl, ap, append_assoc, add-one, length-drop, ◌∙◌, ⊎_elim, arith, rules}
use Rattle.std.proofs.lemmas.List.FromFn.{fill_by_all}
use Rattle.std.proofs.lemmas.List.{drop-drop, places, take_all, take-append-drop}
use Rattle.std.proofs.lemmas.Option.{slice_get-get_or, slice_get_past, unwrap_or-slice_get}
use Rattle.std.proofs.lemmas.List.Sums.{sum_by-append}
use Rattle.std.proofs.lemmas.Bool.{cases_lt}
use Rattle.std.proofs.lemmas.Bool.Decides.{nat_tests}
use Rattle.std.specs.List.{slice_get, range_with_len, between}
use Rattle.edits.proofs.SwapLaws.{comes_lt, comes_past}
use Rattle.orders.specs.Edits.{comes}

-- the sum does not depend on the order of two neighbouring runs
sum_by_turned : {X : Type 0} (f : X → ℕ) (p q r s : List X) → sum_by f (p ++ (r ++ (q ++ s))) ≡ sum_by f (p ++ (q ++ (r ++ s)))
sum_by_turned f p q r s = simp (sum_by-append) (omega arith)

pub same_slice_get : (xs ys : List ℕ) → ((i : ℕ) → slice_get xs i ≡ slice_get ys i) → xs ≡ ys
same_slice_get [] [] h = refl
same_slice_get [] (y ∷ ys) h = let e = h 0 in absurd (let z : ◌≡◌ {A = ℕ} 0 1 = cc in omega arith)
same_slice_get (x ∷ xs) [] h = let e = h 0 in absurd (let z : ◌≡◌ {A = ℕ} 0 1 = cc in omega arith)
same_slice_get (x ∷ xs) (y ∷ ys) h = let e = h 0 in let f = same_slice_get xs ys (λ i. h (suc i)) in cc

-- where the entries are the same, so are the values read
pub same_get_or : (xs ys : List ℕ) (i j : ℕ) → slice_get ys j ≡ slice_get xs i → get_or ys j 0 ≡ get_or xs i 0
same_get_or xs ys i j e = sym (unwrap_or-slice_get ys j 0) ∙ ap (λ o. unwrap_or o 0) e ∙ unwrap_or-slice_get xs i 0

-- a list from i on is its run ahead of j, and what is from j on
cut : (xs : List ℕ) (i j : ℕ) → i ≤ j → between i j xs ++ drop j xs ≡ drop i xs
cut xs i j l = let e : i + (j - i) ≡ j = omega arith in let f = drop-drop (j - i) i xs in let g = take-append-drop (j - i) (drop i xs) in cc

module _ (xs : List ℕ) (a k b : ℕ) (left : a < k) (right : k ≤ b) (size : b < length xs) where
  parted : take a xs ++ (between a k xs ++ (between k (suc b) xs ++ drop (suc b) xs)) ≡ xs
  parted = let e = cut xs a k (omega arith) in let f = cut xs k (suc b) (omega arith) in let g = take-append-drop a xs in cc

  -- the list with the runs a to k - 1 and k to b in each other's place
  abbrev turned : List ℕ
  turned = take a xs ++ (between k (suc b) xs ++ (between a k xs ++ drop (suc b) xs))

  -- the same as the code puts it together
  abbrev run_by_run : List ℕ → List ℕ
  run_by_run zs = (take a zs ++ (take (b + 1 - k) (drop k zs) ++ take (k - a) (drop a zs))) ++ take (length zs - (b + 1)) (drop (b + 1) zs)

  length-turned : length turned ≡ length xs
  length-turned = search (rules, places)

  get_or-turned : (x : ℕ) → x < length xs → get_or turned x 0 ≡ get_or xs (comes a k b x) 0
  get_or-turned x l = grind (arith, nat_tests, places)

  slice_get-turned : (x : ℕ) → slice_get turned x ≡ slice_get xs (comes a k b x)
  slice_get-turned x = ⊎_elim
      (λ l. slice_get-get_or turned x 0 (rw length-turned l) ∙ ap Some (get_or-turned x l) ∙ sym (slice_get-get_or xs (comes a k b x) 0 (comes_lt a k b left right x (length xs) size l)))
      (λ l. slice_get_past turned x (rw length-turned l) ∙ sym (slice_get_past xs (comes a k b x) (rw (comes_past a k b left right x (omega arith)) l)))
      (cases_lt x (length xs))

  -- what is in those places is that list
  module _ (ys : List ℕ) (is : (x : ℕ) → slice_get ys x ≡ slice_get xs (comes a k b x)) where
    is_turned : ys ≡ turned
    is_turned = same_slice_get ys turned (λ x. is x ∙ sym (slice_get-turned x))

    pub same_length : length ys ≡ length xs
    same_length = ap length is_turned ∙ length-turned

    pub same_sum : (f : ℕ → ℕ) → sum_by f ys ≡ sum_by f xs
    same_sum f = ap (sum_by f) is_turned ∙ sum_by_turned f (take a xs) (between a k xs) (between k (suc b) xs) (drop (suc b) xs) ∙ ap (sum_by f) parted

  -- the list that was made place by place
  pub slice_get-made : (ys : List ℕ) (n : ℕ) → n ≡ length xs → ys ≡ map (λ y. get_or xs (comes a k b y) 0) (range_with_len 0 n) → (x : ℕ) → slice_get ys x ≡ slice_get xs (comes a k b x)
  slice_get-made ys n e made x =
      ap (λ (zs : List ℕ). slice_get zs x) (made ∙ sym (fill_by_all (λ y. get_or xs (comes a k b y) 0) turned n 0 (length-turned ∙ sym e) (λ y l. get_or-turned y (omega arith)))) ∙ slice_get-turned x

  -- the list that was made run by run
  pub laid_turned : length xs ≤ 128 → (zs : List ℕ) → zs ≡ xs → (ys : List ℕ) → ys ≡ take 128 (run_by_run zs) → (x : ℕ) → slice_get ys x ≡ slice_get xs (comes a k b x)
  laid_turned few zs e ys made x =
      let whole : run_by_run zs ≡ turned = rw e (simp (add-one, append_assoc) (ap (λ (ds : List ℕ). take a xs ++ (between k (suc b) xs ++ (between a k xs ++ ds))) (take_all _ (drop (suc b) xs) (omega (arith, length-drop (suc b) xs))))) in
      ap (λ (l : List ℕ). slice_get l x) (made ∙ take_all 128 (run_by_run zs) (rw (whole, length-turned) few) ∙ whole) ∙ slice_get-turned x
