-- The laws of membership that hold of any set.
use Rattle.std.proofs.Common.{◌≡◌, ℕ, ◌+◌, ◌*◌, ◌/◌, ◌%◌, ◌^◌, ◌<◌, ◌≤◌, Bool, true, false, not, ◌&&◌, ltb, List, length, get_or, sym, refl, ◌∙◌, ⊎_elim, arith}
use mathlib.Core.HLevel.{is_prop→PathP, Π_prop}
use native.Mathlib.Bridge.{le_prop}
use native.Mathlib.Nat.{ℕ_set}
use Rattle.std.proofs.lemmas.List.{get_or_past, ext_get_or}
use Rattle.std.proofs.lemmas.Bool.{both_ways, cases_Bool, cases_lt}
use Rattle.std.proofs.lemmas.Bool.Decides.{nat_tests}
use Rattle.sets.specs.Member.{bit, member}
use Rattle.sets.specs.declared.bits.BitSet.{BitSet}
use Rattle.sets.proofs.Laws.{bit_zero, same_or_differ}

-- nothing at or past 64 for each word is a member
pub member_past : (ws : List ℕ) (i : ℕ) → 64 * length ws ≤ i → member ws i ≡ false
member_past ws i h = let p : length ws ≤ i / 64 = omega arith in rw get_or_past (bit_zero (i % 64))

-- no number at or past 64 * W is a member
pub member_room : {W : ℕ} (s : BitSet W) (i : ℕ) → 64 * W ≤ i → member s.words i ≡ false
member_room s i h = member_past s.words i (omega (arith, s.size))

-- a member has room
pub member_lt : {W : ℕ} (s : BitSet W) (i : ℕ) → member s.words i ≡ true → i < 64 * W
member_lt {W} s i e = ⊎_elim (λ l. l) (λ l. absurd (both_ways _ (member_room s i l) e)) (cases_lt i (64 * W))

-- no member passes the numbers of `usize`
pub member_unusable : {W : ℕ} (s : BitSet W) (i : ℕ) → 2 ^ 64 ≤ i → member s.words i ≡ false
member_unusable s i h = ⊎_elim (λ e. absurd (omega (arith, s.usable i e))) (λ e. e) (cases_Bool (member s.words i))

-- bit b of word k stands for 64 * k + b
pub member_at : (ws : List ℕ) (k b : ℕ) → b < 64 → member ws (64 * k + b) ≡ bit (get_or ws k 0) b
member_at ws k b h =
    let q : (64 * k + b) / 64 ≡ k = omega arith in
    let r : (64 * k + b) % 64 ≡ b = omega arith in
    rw (q, r) refl

-- words that fit and have the same members are the same
pub words_same : (ws vs : List ℕ) → length ws ≡ length vs → ((k : ℕ) → get_or ws k 0 < 2 ^ 64) → ((k : ℕ) → get_or vs k 0 < 2 ^ 64) → ((i : ℕ) → member ws i ≡ member vs i) → ws ≡ vs
words_same ws vs e f g same = ext_get_or 0 ws vs e (λ k _. ⊎_elim (λ h. h) (apart k) (same_or_differ 64 (get_or ws k 0) (get_or vs k 0) (f k) (g k)))
  where
    apart : (k : ℕ) → ((b : ℕ) × (b < 64) × (bit (get_or ws k 0) b ≡ not (bit (get_or vs k 0) b))) → get_or ws k 0 ≡ get_or vs k 0
    apart k at =
        let s = sym (member_at ws k at.0 at.1) ∙ same (64 * k + at.0) ∙ member_at vs k at.0 at.1 in
        grind (arith, nat_tests, cases_Bool (bit (get_or vs k 0) at.0), at.2)

-- sets with the same members are the same: the ghost fields are propositions
pub sets_same : {W : ℕ} (a b : BitSet W) → ((i : ℕ) → member a.words i ≡ member b.words i) → a ≡ b
sets_same {W} a b same = λ i. record {
  words = p i;
  size = is_prop→PathP (λ j. length (p j) ≡ W) (λ j. ℕ_set _ _) a.size b.size i;
  fits = is_prop→PathP (λ j. (k : ℕ) → get_or (p j) k 0 < 2 ^ 64) (λ j. Π_prop (λ k. le_prop)) a.fits b.fits i;
  usable = is_prop→PathP (λ j. (n : ℕ) → member (p j) n ≡ true → n < 2 ^ 64) (λ j. Π_prop (λ n. Π_prop (λ e. le_prop))) a.usable b.usable i;
}
  where
    p : a.words ≡ b.words
    p = words_same a.words b.words (a.size ∙ sym b.size) a.fits b.fits same

-- the members of `below_where`, where the answers to the numbers below k are a test
pub members_where : {W : ℕ} (k : ℕ) (s : BitSet W) (Gives : ℕ → Bool → Type 0) (test : ℕ → Bool) → k ≤ 64 * W → ((j : ℕ) → j < k → j < 64 * W → (b : Bool) × Gives j b × (member s.words j ≡ b)) → ((j : ℕ) → member s.words j ≡ true → j < k) → ((j : ℕ) (b : Bool) → j < k → Gives j b → b ≡ test j) → (j : ℕ) → member s.words j ≡ (ltb j k && test j)
members_where k s Gives test room gives bound says j = ⊎_elim
    (λ l. let g = gives j l (omega arith) in let e = g.2 ∙ says j g.0 l g.1 in grind (arith, nat_tests))
    (λ l. ⊎_elim (λ e. absurd (omega (arith, bound j e))) (λ e. e ∙ grind (arith, nat_tests)) (cases_Bool (member s.words j)))
    (cases_lt j k)
