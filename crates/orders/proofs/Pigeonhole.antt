-- n different numbers below m: n is at most m, and less where one number below m is missed.
use Rattle.std.proofs.Common.{◌≡◌, ℕ, zero, suc, ◌-◌, ◌<◌, ◌≤◌, cond, ltb, arith}
use Rattle.std.proofs.lemmas.Bool.Decides.{nat_tests}

-- the numbers f 0 to f (n - 1) are below m and differ
pub record Differ (n m : ℕ) (f : ℕ → ℕ) : Type 0 where
  pub below : (k : ℕ) → k < n → f k < m
  pub apart : (j k : ℕ) → j < n → k < n → f j ≡ f k → j ≡ k

-- y counted without x
abbrev without : ℕ → ℕ → ℕ
without x y = cond (ltb x y) (y - 1) y

without_apart : (x y z : ℕ) → (y ≡ x → ⊥) → (z ≡ x → ⊥) → without x y ≡ without x z → y ≡ z
without_apart x y z p q h = grind (arith, nat_tests)

without_below : (x y m : ℕ) → (y ≡ x → ⊥) → x < suc m → y < suc m → without x y < m
without_below x y m p h k = grind (arith, nat_tests)

room : (n : ℕ) → ((m : ℕ) (f : ℕ → ℕ) → Differ n m f → n ≤ m) → (m x : ℕ) (f : ℕ → ℕ) → Differ n m f → x < m → ((k : ℕ) → k < n → f k ≡ x → ⊥) → n < m
room n fit zero x f d h miss = omega arith
room n fit (suc m) x f d h miss =
    let l = fit m (λ k. without x (f k)) (record {
      below = λ k g. without_below x (f k) m (miss k g) h (d.below k g);
      apart = λ j k g i e. d.apart j k g i (without_apart x (f j) (f k) (miss j g) (miss k i) e);
    }) in
    omega arith

pub differ_fit : (n m : ℕ) (f : ℕ → ℕ) → Differ n m f → n ≤ m
differ_fit zero m f d = omega arith
differ_fit (suc n) m f d = room n (differ_fit n) m (f n) f
    (record { below = λ k h. d.below k (omega arith); apart = λ j k h g e. d.apart j k (omega arith) (omega arith) e })
    (d.below n (omega arith))
    (λ k h e. omega (arith, d.apart k n (omega arith) (omega arith) e))

pub differ_miss : (n m x : ℕ) (f : ℕ → ℕ) → Differ n m f → x < m → ((k : ℕ) → k < n → f k ≡ x → ⊥) → n < m
differ_miss n = room n (differ_fit n)
