-- What a chain over a range answers, said of the numbers in it and not of a list.
use Rattle.std.proofs.Common.{◌≡◌, ℕ, ◌+◌, ◌-◌, ◌<◌, ◌≤◌, Bool, true, false, List, [], ◌∷◌, length, get_or, MatchBool, MatchOption, Option, refl, sym, ap, subst, arith}
use Rattle.std.proofs.iter.Yields.{nat_range_steps}
use Rattle.std.proofs.lemmas.Iterator.{YieldsList-from_range, cases_from_any}
use Rattle.std.proofs.lemmas.List.FromFn.{length-range_with_len, get_or-range_with_len}
use Rattle.std.specs.Fn.{Called}
use Rattle.std.specs.Iterator.{FoldTurn, FoldsItems, Yields, YieldsThen}
use Rattle.std.specs.List.{AllWithin, FoldsTo, HoldsAt, range_with_len}
use Rattle.std.specs.declared.ops.Range.{Range}
use denote.Param.Members.{Mut}

pub any_from_Range : {F : Type 0} {g : Mut F (ℕ × Unit {0}) Bool} (s u : Range ℕ) (f : F) (r : Bool) (Yes No : ℕ → Type 0) → (xs : List ℕ) × (o : Option ℕ) × (j : F) × YieldsThen nat_range_steps s xs o u × FoldsTo (λ p x q. Called g p (x, tt) false q) f xs j × MatchOption o (r ≡ false) (λ x. (r ≡ true) × ((h : F) × Called g j (x, tt) true h)) → ((x : ℕ) (q : F) → Called g f (x, tt) true q → Yes x) → ((x : ℕ) (q : F) → Called g f (x, tt) false q → (q ≡ f) × No x) → MatchBool r ((k : ℕ) × (s.start ≤ k) × (k < s.end) × Yes k) ((k : ℕ) → s.start ≤ k → k < s.end → No k)
any_from_Range s u f r Yes No d yes' no' = by r (cases_from_any u f r Yes No d (YieldsList-from_range s.start s.end _ refl refl) yes' no')
  where
    n : ℕ
    n = s.end - s.start

    by : (b : Bool) → MatchBool b ((k : ℕ) × (k < length (range_with_len s.start n)) × HoldsAt Yes (range_with_len s.start n) k) (AllWithin No (range_with_len s.start n) 0 (length (range_with_len s.start n))) → MatchBool b ((k : ℕ) × (s.start ≤ k) × (k < s.end) × Yes k) ((k : ℕ) → s.start ≤ k → k < s.end → No k)
    by true (k, l, h) =
        let l : k < n = omega (arith, length-range_with_len s.start n) in
        (s.start + k, omega arith, omega arith, subst Yes (get_or-range_with_len s.start n k 0 l) (h 0))
    by false h = λ k a b. subst No {x = get_or (range_with_len s.start n) (k - s.start) 0} {y = k} (omega (arith, get_or-range_with_len s.start n (k - s.start) 0 (omega arith))) (h (k - s.start) 0 (omega arith) (omega (arith, length-range_with_len s.start n)))

-- J holds of the start and the first value, each turn takes it one further, and so it holds of the end and the result
module _ {F C : Type 0} {g : Mut F (C × (ℕ × Unit {0})) C} (J : ℕ → C → Type 0) (f : F) (step : (i : ℕ) (a b : C) (f' : F) → J i a → Called g f (a, (i, tt)) b f' → (f' ≡ f) × J (i + 1) b) where
  folded : (xs : List ℕ) (s t : Range ℕ) (h f' : F) (a r : C) → Yields nat_range_steps s xs t → h ≡ f → FoldsTo {P = F × C} (FoldTurn g) (h, a) xs (f', r) → s.start ≤ s.end → J s.start a → J t.start r × (t.end ≡ s.end) × (t.start ≤ s.end)
  folded [] s t h f' a r y same turns l j =
      let e = ap (λ (q : Range ℕ). q.end) y in
      let b = ap (λ (q : Range ℕ). q.start) y in
      (subst (λ (p : ℕ × C). J p.0 p.1) (λ i. (b i, (turns i).1)) j, sym e, omega arith)
  folded (x ∷ xs) s t h f' a r (u, (ends, (some, is, next)), y) same ((k, b), turn, turns) l j =
      let (kept, more) = step s.start a b k j (subst (λ (p : F × ℕ). Called g p.0 (a, (p.1, tt)) b k) (λ i. (same i, is i)) turn) in
      let (end, e, m) = folded xs u t k f' b r y kept turns (omega arith) (subst (λ n. J n b) (sym next) more) in
      (end, omega arith, omega arith)

  pub fold_from_Range : (s : Range ℕ) (a r : C) → FoldsItems nat_range_steps g s f a r → s.start ≤ s.end → J s.start a → J s.end r
  fold_from_Range s a r (xs, f', (u, (t, y, (_, (none, _)))), turns) l j =
      let (end, e, m) = folded xs s t f f' a r y refl turns l j in
      subst (λ n. J n r) (omega arith) end
