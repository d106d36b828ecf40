-- A list that comes in place of a run of another.
use Rattle.std.proofs.Common.{◌≡◌, ℕ, suc, ◌+◌, ◌-◌, ◌<◌, ◌≤◌, List, ◌++◌, map, length, get_or, take, drop, sum_by, ap, append_assoc, add-one, length-append, length-drop, ◌∙◌, ⊎_elim, arith}
use Rattle.std.proofs.lemmas.List.{drop-drop, get_or_past, length-take-le, map-id, take_all}
use Rattle.std.proofs.lemmas.List.Elements.{All-append, All-drop, All-from_get_or, All-get_or, All-take}
use Rattle.std.proofs.lemmas.List.Sums.{sum_by-append, sum_by-take-drop}
use Rattle.std.proofs.lemmas.Bool.{cases_lt}
use Rattle.std.specs.List.{All}
use Rattle.edits.specs.Replacing.{from_to, put_in}

module _ (xs : List ℕ) (a b : ℕ) (ys : List ℕ) where
  -- what holds of every number of both holds of those that come out
  pub put_in_all : (P : ℕ → Type 0) → All P xs → All P ys → All P (put_in xs a b ys)
  put_in_all P old new = All-append P (take a xs) _ (All-take P a xs old) (All-append P ys _ new (All-drop P (suc b) xs old))

  pub put_in_below : (n : ℕ) → 0 < n → ((k : ℕ) → get_or xs k 0 < n) → ((k : ℕ) → get_or ys k 0 < n) → (x : ℕ) → get_or (put_in xs a b ys) x 0 < n
  put_in_below n some old new x = ⊎_elim
      (λ l. All-get_or (λ k. k < n) _ x 0 l (put_in_all (λ k. k < n) (All-from_get_or (λ k. k < n) xs 0 (λ k _. old k)) (All-from_get_or (λ k. k < n) ys 0 (λ k _. new k))))
      (λ g. rw (get_or_past (put_in xs a b ys) x 0 g) some)
      (cases_lt x (length (put_in xs a b ys)))

  module _ (l : a ≤ b) (h : b < length xs) where
    pub length-put_in : length (put_in xs a b ys) ≡ length xs + (a + length ys) - suc b
    length-put_in = simp (length-append, length-drop) (omega (arith, length-take-le a xs))

    -- the same as the code puts it together
    abbrev piece_by_piece : List ℕ → List ℕ
    piece_by_piece zs = (take a zs ++ map (λ n. n) ys) ++ take (length zs - (b + 1)) (drop (b + 1) zs)

    pub laid_in : length xs + (a + length ys) - suc b ≤ 128 → (zs : List ℕ) → zs ≡ xs → (made : List ℕ) → made ≡ take 128 (piece_by_piece zs) → made ≡ put_in xs a b ys
    laid_in few zs e made is =
        let whole : piece_by_piece zs ≡ put_in xs a b ys = rw e (simp (add-one, append_assoc, map-id) (ap (λ (ds : List ℕ). take a xs ++ (ys ++ ds)) (take_all _ (drop (suc b) xs) (omega (arith, length-drop (suc b) xs))))) in
        is ∙ take_all 128 (piece_by_piece zs) (rw (whole, length-put_in) few) ∙ whole

    -- the sum changes by the list and the run
    pub sum_by-put_in : (price : ℕ → ℕ) → sum_by price (put_in xs a b ys) + sum_by price (from_to xs a b) ≡ sum_by price xs + sum_by price ys
    sum_by-put_in price =
        let whole = sum_by-take-drop price xs a in
        let rest = sum_by-take-drop price (drop a xs) (suc b - a) in
        let same : a + (suc b - a) ≡ suc b = omega arith in
        let back : drop (suc b - a) (drop a xs) ≡ drop (suc b) xs = drop-drop (suc b - a) a xs ∙ ap (λ i. drop i xs) same in
        simp (sum_by-append) (omega (arith, ap (sum_by price) back))
