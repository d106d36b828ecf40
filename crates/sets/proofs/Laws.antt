-- The laws of a word's bits.
use Rattle.std.proofs.Common.{◌≡◌, ℕ, zero, suc, ◌+◌, ◌-◌, ◌/◌, ◌%◌, ◌^◌, ◌<◌, ◌≤◌, Bool, true, false, not, ◌&&◌, ◌||◌, eqb, ltb, ◌⊎◌, sym, refl, ap, ◌∙◌, inl, inr, ⊎_elim, add-zero, add-suc, pow-suc, pow_mono, one-add, arith}
use lib.Bits.{bit_and, bit_or, and_step, or_step, and_shr, or_shr}
use lib.Count.{ones, ones_step, count_trailing_zeros, under}
use mathlib.Core.Bool.{and-true}
use native.Mathlib.Nat.{zero-div}
use Rattle.std.proofs.Math.Nat.{div-eq_of_lt, div-eq_of_lt-le}
use Rattle.std.proofs.lemmas.Nat.{pow_pos, shr-shr}
use Rattle.std.proofs.lemmas.Bool.{cases_Bool, cases_eq}
use Rattle.std.proofs.lemmas.Bool.Decides.{nat_tests}
use Rattle.sets.specs.Member.{bit, tally}

pub bit_same : {v w : ℕ} (k : ℕ) → v ≡ w → bit v k ≡ bit w k
bit_same k e = ap (λ (n : ℕ). bit n k) e

pub bit_zero : (k : ℕ) → bit 0 k ≡ false
bit_zero k = rw zero-div refl

-- the bits but the lowest are those of the half
pub bit_half : (n k : ℕ) → bit n (suc k) ≡ bit (n / 2) k
bit_half n k = ap (λ (q : ℕ). eqb (q % 2) 1) (ap (λ (m : ℕ). n / 2 ^ m) (sym (one-add k)) ∙ sym (shr-shr n 1 k))

pub bit-or : (a b k : ℕ) → bit (bit_or a b) k ≡ (bit a k || bit b k)
bit-or a b k = let s = or_step (a / 2 ^ k) (b / 2 ^ k) in rw or_shr (grind (arith, nat_tests))

pub bit-and : (a b k : ℕ) → bit (bit_and a b) k ≡ (bit a k && bit b k)
bit-and a b k = let s = and_step (a / 2 ^ k) (b / 2 ^ k) in rw and_shr (grind (arith, nat_tests))

-- `!a` at a width of w bits
pub bit_not : (w a k : ℕ) → a < 2 ^ w → bit (2 ^ w - 1 - a) k ≡ (ltb k w && not (bit a k))
bit_not zero a k h = let e : 0 - a ≡ 0 = omega arith in rw (e, bit_zero k) (grind (arith, nat_tests))
bit_not (suc w) a zero h = let e = pow-suc 2 w in let p = pow_pos w in grind (arith, nat_tests)
bit_not (suc w) a (suc k) h =
    let e = pow-suc 2 w in
    let half : (2 ^ suc w - 1 - a) / 2 ≡ 2 ^ w - 1 - a / 2 = omega arith in
    let ih = bit_not w (a / 2) k (omega arith) in
    let t : ltb (suc k) (suc w) ≡ ltb k w = grind (arith, nat_tests) in
    bit_half (2 ^ suc w - 1 - a) k ∙ bit_same k half ∙ ih ∙ rw (t, bit_half a k) refl

pub bit_one : (j k : ℕ) → bit (2 ^ j) k ≡ eqb k j
bit_one zero zero = refl
bit_one zero (suc k) = bit_half 1 k ∙ bit_zero k ∙ grind (arith, nat_tests)
bit_one (suc j) zero = let e = pow-suc 2 j in grind (arith, nat_tests)
bit_one (suc j) (suc k) =
    let e = pow-suc 2 j in
    let half : 2 ^ suc j / 2 ≡ 2 ^ j = omega arith in
    bit_half (2 ^ suc j) k ∙ bit_same k half ∙ bit_one j k ∙ grind (arith, nat_tests)

-- two words of w bits are equal or differ at a bit
pub same_or_differ : (w a b : ℕ) → a < 2 ^ w → b < 2 ^ w → (a ≡ b) ⊎ ((k : ℕ) × (k < w) × (bit a k ≡ not (bit b k)))
same_or_differ zero a b h k = inl (omega arith)
same_or_differ (suc w) a b h k =
    let e = pow-suc 2 w in
    let ih = same_or_differ w (a / 2) (b / 2) (omega arith) (omega arith) in
    ⊎_elim
    (λ low. ⊎_elim (λ high. inl (omega arith)) (λ at. inr (suc at.0, omega (arith, at.1), bit_half a at.0 ∙ at.2 ∙ ap not (sym (bit_half b at.0)))) ih)
    (λ low. inr (0, omega arith, grind (arith, nat_tests))) (cases_eq (a % 2) (b % 2))

-- t is the lowest bit of n, and below w
abbrev pub Lowest : ℕ → ℕ → ℕ → Type 0
Lowest w n t = (t < w) × (bit n t ≡ true) × ((k : ℕ) → k < t → bit n k ≡ false)

lowest_step : (w n d t : ℕ) → n % 2 ≡ d → 0 < n → (0 < n / 2 → Lowest w (n / 2) t) → Lowest (suc w) n (under d t)
lowest_step w n zero t e p half = let ih = half (omega arith) in (omega (arith, ih.0), bit_half n t ∙ ih.1, clear ih.2)
  where
    clear : ((k : ℕ) → k < t → bit (n / 2) k ≡ false) → (k : ℕ) → k < suc t → bit n k ≡ false
    clear ih zero l = grind (arith, nat_tests)
    clear ih (suc k) l = bit_half n k ∙ ih k (omega arith)
lowest_step w n (suc d) t e p half = (omega arith, grind (arith, nat_tests), λ k l. absurd (omega arith))

-- a word that is not 0 has a lowest bit
pub trailing_lowest : (w n : ℕ) → 0 < n → n < 2 ^ w → Lowest w n (count_trailing_zeros w n)
unfolding count_trailing_zeros
trailing_lowest zero n p h = absurd (omega arith)
trailing_lowest (suc w) n p h =
    let e = pow-suc 2 w in
    lowest_step w n (n % 2) (count_trailing_zeros w (n / 2)) refl p (λ q. trailing_lowest w (n / 2) q (omega arith))

-- t is the highest bit of n
pub bit_highest : (n t : ℕ) → 2 ^ t ≤ n → n < 2 ^ suc t → (bit n t ≡ true) × ((k : ℕ) → t < k → bit n k ≡ false)
bit_highest n t least less =
    let e = pow-suc 2 t in
    let once : n / 2 ^ t ≡ 1 = div-eq_of_lt-le (2 ^ t) (omega arith) (omega arith) in
    (rw once refl, λ k l. let more = pow_mono {i = suc t} {j = k} (omega arith) in let none : n / 2 ^ k ≡ 0 = div-eq_of_lt (omega arith) in rw none refl)

pub bit_ones : (w k : ℕ) → bit (2 ^ w - 1) k ≡ ltb k w
bit_ones w k = let p = pow_pos w in let e : 2 ^ w - 1 - 0 ≡ 2 ^ w - 1 = omega arith in rw (← e) (bit_not w 0 k p ∙ rw (bit_zero k, and-true (ltb k w)) refl)

-- counts: of numbers one range behind another, of equal tests, and of a word's bits

pub tally_add : (p : ℕ → Bool) (a b : ℕ) → tally p (a + b) ≡ tally p a + tally (λ k. p (a + k)) b
tally_add p a zero = rw (add-zero a, add-zero (tally p a)) refl
tally_add p a (suc b) = rw (add-suc a b) (omega (arith, tally_add p a b))

pub tally_same : (p q : ℕ → Bool) (n : ℕ) → ((k : ℕ) → k < n → p k ≡ q k) → tally p n ≡ tally q n
tally_same p q zero h = refl
tally_same p q (suc n) h = cc (h n (omega arith), tally_same p q n (λ k l. h k (omega arith)))

pub tally_le : (p : ℕ → Bool) (n : ℕ) → tally p n ≤ n
tally_le p zero = omega arith
tally_le p (suc n) = let l = tally_le p n in grind (arith, cases_Bool (p n))

pub tally_bits : (w n : ℕ) → n < 2 ^ w → tally (bit n) w ≡ ones n
unfolding ones
tally_bits zero n h = let e : n ≡ 0 = omega arith in rw e
tally_bits (suc w) n h =
    let e = pow-suc 2 w in
    let low : tally (bit n) 1 ≡ n % 2 = grind (arith, nat_tests) in
    let high = tally_same (λ k. bit n (1 + k)) (bit (n / 2)) w (λ k _. ap (bit n) (one-add k) ∙ bit_half n k) in
    ap (tally (bit n)) (sym (one-add w)) ∙ tally_add (bit n) 1 w ∙ omega (arith, high, tally_bits w (n / 2) (omega arith), ones_step n)
