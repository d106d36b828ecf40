-- The lowest number that passes a test.
use Rattle.std.proofs.Common.{◌≡◌, ℕ, zero, suc, ◌<◌, Bool, true, false, cond, Some, None, Option, refl, ⊎_elim, arith}
use Rattle.std.proofs.lemmas.Bool.{cases_lt}

abbrev pub or_else : Option ℕ → Option ℕ → Option ℕ
or_else None o = o
or_else (Some k) o = Some k

-- the lowest below n
abbrev pub lowest : (ℕ → Bool) → ℕ → Option ℕ
lowest test zero = None
lowest test (suc n) = or_else (lowest test n) (cond (test n) (Some n) None)

pub lowest_none : (test : ℕ → Bool) (n : ℕ) → ((k : ℕ) → k < n → test k ≡ false) → lowest test n ≡ None
lowest_none test zero none = refl
lowest_none test (suc n) none = rw (lowest_none test n (λ k l. none k (omega arith)), none n (omega arith)) refl

pub lowest_some : (test : ℕ → Bool) (n k : ℕ) → k < n → test k ≡ true → ((j : ℕ) → j < k → test j ≡ false) → lowest test n ≡ Some k
lowest_some test zero k l h first = absurd (omega arith)
lowest_some test (suc n) k l h first = ⊎_elim
    (λ low. rw (lowest_some test n k low h first) refl)
    (λ high. let e : k ≡ n = omega arith in rw (← e, lowest_none test k first, h) refl)
    (cases_lt k n)
