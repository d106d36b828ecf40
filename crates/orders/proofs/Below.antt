-- What `some_below` says.
use Rattle.std.proofs.Common.{◌≡◌, ℕ, ◌<◌, Bool, true, false, not, ◌&&◌, Decides, refl, ⊎_elim}
use Rattle.std.proofs.lemmas.Bool.{and_from, and_parts, both_ways, cases_Bool, not_from_false, not-true}
use Rattle.std.proofs.lemmas.Bool.Decides.{Decides-below_or, Decides-like, Decides-not}
use Rattle.orders.specs.Check.{some_below}

pub below_is : (test : ℕ → Bool) (n : ℕ) → Decides (some_below n test) ((k : ℕ) × (k < n) × (test k ≡ true))
below_is test = Decides-below_or test (λ k. test k ≡ true) (λ n. some_below n test) (λ k. (λ h. h, λ h. h)) refl (λ _. refl)

pub refuted : (b : Bool) → (b ≡ true → ⊥) → b ≡ false
refuted b n = ⊎_elim (λ h. absurd (n h)) (λ h. h) (cases_Bool b)

pub is_true : (b : Bool) → Decides b (b ≡ true)
is_true b = (λ h. h, λ h. h)

pub is_false : (b : Bool) → Decides (not b) (b ≡ false)
is_false b = (not-true b, not_from_false b)

-- no number below n passes both tests
pub none_is : (a b : ℕ → Bool) (n : ℕ) → Decides (not (some_below n (λ k. a k && b k))) ((k : ℕ) → k < n → b k ≡ true → a k ≡ false)
none_is a b n = Decides-like (not (some_below n (λ k. a k && b k)))
    (λ h k l g. refuted (a k) (λ e. h (k, l, and_from (a k) (b k) e g)))
    (λ h (k, l, g). let (u, v) = and_parts (a k) (b k) g in both_ways (a k) (h k l v) u)
    (Decides-not (some_below n (λ k. a k && b k)) (below_is (λ k. a k && b k) n))
