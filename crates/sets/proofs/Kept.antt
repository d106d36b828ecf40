-- What the functions on sets keep: the ghost fields, and the members after a write and in a loop.
use Rattle.std.proofs.Common.{◌≡◌, ℕ, suc, ◌+◌, ◌-◌, ◌*◌, ◌/◌, ◌%◌, ◌^◌, ◌<◌, ◌≤◌, min, Bool, true, false, not, ◌&&◌, ◌||◌, eqb, ltb, List, length, get_or, set, replicate, sym, refl, ap, ◌∙◌, ⊎_elim, arith, pow_mono}
use lib.Bits.{bit_and, bit_or}
use lib.Count.{ones, count_trailing_zeros}
use lib.Pow.{ones_lt}
use Rattle.std.proofs.lemmas.Nat.{and_le_l, one_shl, or_lt, pow_below}
use Rattle.std.proofs.lemmas.List.{get_or_past, get_or-replicate, get_or-set_other, get_or-set_same, length-replicate}
use Rattle.std.proofs.lemmas.Bool.{and_parts, both_ways, cases_eq, cases_lt, lt-ltb, ltb-true}
use Rattle.std.proofs.lemmas.Bool.Decides.{nat_tests}
use Rattle.sets.specs.Member.{bit, member, tally}
use Rattle.sets.specs.declared.bits.BitSet.{BitSet}
use Rattle.sets.proofs.Laws.{bit-and, bit_highest, bit_not, bit_one, bit_ones, bit-or, bit_same, bit_zero, tally_add, tally_bits, tally_same, trailing_lowest}
use Rattle.sets.proofs.Members.{member_at, member_past, member_room, member_unusable}

-- what the ghost fields of a set of W words say of its words
abbrev pub Sound : ℕ → List ℕ → Type 0
Sound W ws = (length ws ≡ W) × ((k : ℕ) → get_or ws k 0 < 2 ^ 64) × ((i : ℕ) → member ws i ≡ true → i < 2 ^ 64)

pub zeros_at : (n k : ℕ) → get_or {A = ℕ} (replicate n 0) k 0 ≡ 0
zeros_at n k =
    ⊎_elim (λ h. get_or-replicate n k 0 0 h) (λ h. get_or_past (replicate n 0) k 0 (rw length-replicate h)) (cases_lt k n)

-- v is written over the word of i, and changes no bit but that of i, which h gives
pub member_write : {W : ℕ} (s : BitSet W) (h : Bool → Bool → Bool) → ((x : Bool) → h x false ≡ x) → (i v : ℕ) → i / 64 < W → ((b : ℕ) → b < 64 → bit v b ≡ h (bit (get_or s.words (i / 64) 0) b) (eqb b (i % 64))) → (j : ℕ) → member (set s.words (i / 64) v) j ≡ h (member s.words j) (eqb j i)
member_write s h keeps i v room law j =
    ⊎_elim
    (λ e.
    let l : i / 64 < length s.words = omega (arith, s.size) in
    let t : eqb (j % 64) (i % 64) ≡ eqb j i = grind (arith, nat_tests) in
    rw e (bit_same (j % 64) (get_or-set_same s.words (i / 64) v 0 l) ∙ law (j % 64) (omega arith) ∙ ap (h (bit (get_or s.words (i / 64) 0) (j % 64))) t))
    (λ ne.
    let t : eqb j i ≡ false = grind (arith, nat_tests) in
    rw t (bit_same (j % 64) (get_or-set_other s.words (i / 64) (j / 64) v 0 ne) ∙ sym (keeps (member s.words j))))
    (cases_eq (j / 64) (i / 64))

-- f on words is h on each bit
pub record Wordwise (f : ℕ → ℕ → ℕ) (h : Bool → Bool → Bool) : Type 0 where
  pub none : f 0 0 ≡ 0
  pub fits : (x y : ℕ) → x < 2 ^ 64 → y < 2 ^ 64 → f x y < 2 ^ 64
  pub bits : (x y b : ℕ) → y < 2 ^ 64 → b < 64 → bit (f x y) b ≡ h (bit x b) (bit y b)

pub wordwise-or : Wordwise bit_or ◌||◌
wordwise-or = record { none = refl; fits = or_lt 64; bits = λ x y b _ _. bit-or x y b }

pub wordwise-and : Wordwise bit_and ◌&&◌
wordwise-and = record { none = refl; fits = λ x y p _. omega (arith, and_le_l x y); bits = λ x y b _ _. bit-and x y b }

-- `x & !y`
abbrev pub without : ℕ → ℕ → ℕ
without x y = bit_and x (2 ^ 64 - 1 - y)

pub wordwise_minus : Wordwise without (λ x y. x && not y)
wordwise_minus = record {
  none = refl;
  fits = λ x y p _. omega (arith, and_le_l x (2 ^ 64 - 1 - y));
  bits = λ x y b p l. bit-and x (2 ^ 64 - 1 - y) b ∙ ap (λ t. bit x b && t) (rw (bit_not 64 y b p, lt-ltb b 64 l) refl);
}

-- a bit put into a word, and cut from it
module _ (w k : ℕ) (small : k < 64) (b : ℕ) (l : b < 64) where
  pub bit_put : bit (bit_or w ((1 * 2 ^ k) % 2 ^ 64)) b ≡ (bit w b || eqb b k)
  bit_put = rw (one_shl k 64 small) (bit-or w (2 ^ k) b ∙ ap (λ t. bit w b || t) (bit_one k b))

  pub bit_cut : bit (bit_and w (2 ^ 64 - 1 - (1 * 2 ^ k) % 2 ^ 64)) b ≡ (bit w b && not (eqb b k))
  bit_cut =
      rw (one_shl k 64 small)
      (wordwise_minus.bits w (2 ^ k) b (pow_below k 64 small) l ∙ ap (λ t. bit w b && not t) (bit_one k b))

-- the words of `ws` are f of those of a and b
module _ {f : ℕ → ℕ → ℕ} {h : Bool → Bool → Bool} (op : Wordwise f h) {W : ℕ} (a b : BitSet W) (ws : List ℕ) (size : length ws ≡ W) (each : (k : ℕ) → k < W → get_or ws k 0 ≡ f (get_or a.words k 0) (get_or b.words k 0)) where
  merged_at : (k : ℕ) → get_or ws k 0 ≡ f (get_or a.words k 0) (get_or b.words k 0)
  merged_at k =
      ⊎_elim (each k)
      (λ l.
      let p = get_or_past a.words k 0 (omega (arith, a.size)) in
      let q = get_or_past b.words k 0 (omega (arith, b.size)) in
      let r = get_or_past ws k 0 (omega arith) in
      let e = op.none in
      cc)
      (cases_lt k W)

  pub member_merged : (i : ℕ) → member ws i ≡ h (member a.words i) (member b.words i)
  member_merged i = bit_same (i % 64) (merged_at (i / 64)) ∙ op.bits _ _ (i % 64) (b.fits (i / 64)) (omega arith)

  pub sound_merged : Sound W ws
  sound_merged = (size, (λ k. rw (merged_at k) (op.fits _ _ (a.fits k) (b.fits k))), small)
    where
      quiet : h false false ≡ false
      quiet = sym (op.bits 0 0 0 (omega arith) (omega arith)) ∙ bit_same 0 op.none

      small : (i : ℕ) → member ws i ≡ true → i < 2 ^ 64
      small i e =
          ⊎_elim (λ l. l)
          (λ l. absurd (both_ways _ (member_merged i ∙ rw (member_unusable a i l, member_unusable b i l) quiet) e))
          (cases_lt i (2 ^ 64))

-- a word that is not 0 stands for numbers of `usize`
pub word_usable : {W : ℕ} (s : BitSet W) (k : ℕ) → 0 < get_or s.words k 0 → 64 * k + 63 < 2 ^ 64
word_usable s k p =
    let low = trailing_lowest 64 (get_or s.words k 0) p (s.fits k) in
    omega (arith, s.usable (64 * k + count_trailing_zeros 64 (get_or s.words k 0)) (member_at s.words k _ low.0 ∙ low.1))

-- the lowest bit of the first word that is not 0
pub member_lowest : {W : ℕ} (s : BitSet W) (k : ℕ) → 0 < get_or s.words k 0 → ((q : ℕ) → q < k → get_or s.words q 0 ≡ 0) → let i = 64 * k + count_trailing_zeros 64 (get_or s.words k 0) in (member s.words i ≡ true) × ((j : ℕ) → j < i → member s.words j ≡ false)
member_lowest s k p zeros =
    let low = trailing_lowest 64 (get_or s.words k 0) p (s.fits k) in (
      member_at s.words k _ low.0 ∙ low.1,
      λ j l. ⊎_elim (λ e. ap (λ (q : ℕ). bit (get_or s.words q 0) (j % 64)) e ∙ low.2 (j % 64) (omega arith))
          (λ ne. bit_same (j % 64) (zeros (j / 64) (omega (arith, low.0))) ∙ bit_zero (j % 64)) (cases_eq (j / 64) k),
    )

-- the highest bit t of the last word that is not 0
pub member_highest : {W : ℕ} (s : BitSet W) (k t : ℕ) → t < 64 → 2 ^ t ≤ get_or s.words k 0 → get_or s.words k 0 < 2 ^ suc t → ((q : ℕ) → k < q → q < W → get_or s.words q 0 ≡ 0) → (member s.words (64 * k + t) ≡ true) × ((j : ℕ) → 64 * k + t < j → member s.words j ≡ false)
member_highest {W} s k t small least less zeros =
    let high = bit_highest (get_or s.words k 0) t least less in (
      member_at s.words k t small ∙ high.0,
      λ j l. ⊎_elim (λ e. ap (λ (q : ℕ). bit (get_or s.words q 0) (j % 64)) e ∙ high.1 (j % 64) (omega arith))
          (λ ne. ⊎_elim (λ m. bit_same (j % 64) (zeros (j / 64) (omega arith) m) ∙ bit_zero (j % 64)) (λ m. member_room s j (omega arith)) (cases_lt (j / 64) W))
          (cases_eq (j / 64) k),
    )

-- the count of one more word's members
pub tally_word : {W : ℕ} (s : BitSet W) (k : ℕ) → tally (member s.words) (64 * (k + 1)) ≡ tally (member s.words) (64 * k) + ones (get_or s.words k 0)
tally_word s k =
    let ws = s.words in
    let more : 64 * (k + 1) ≡ 64 * k + 64 = omega arith in
    ap (tally (member ws)) more ∙ tally_add (member ws) (64 * k) 64 ∙ ap (λ (n : ℕ). tally (member ws) (64 * k) + n)
    (tally_same (λ b. member ws (64 * k + b)) (bit (get_or ws k 0)) 64 (λ b l. member_at ws k b l) ∙ tally_bits 64 (get_or ws k 0) (s.fits k))

-- words of which each has its lowest bits set, as many as are left of n
module _ {W : ℕ} (ws : List ℕ) (size : length ws ≡ W) (n : ℕ) (each : (k : ℕ) → k < W → get_or ws k 0 ≡ 2 ^ min (n - 64 * k) 64 - 1) where
  pub member_ones : (j : ℕ) → member ws j ≡ (ltb j n && ltb j (64 * W))
  member_ones j =
      ⊎_elim
      (λ l. bit_same (j % 64) (each (j / 64) l) ∙ bit_ones (min (n - 64 * (j / 64)) 64) (j % 64) ∙ grind (arith, nat_tests))
      (λ l. member_past ws j (omega arith) ∙ grind (arith, nat_tests)) (cases_lt (j / 64) W)

  pub sound_ones : n < 2 ^ 64 → Sound W ws
  sound_ones small = (
    size,
    (λ k. ⊎_elim
        (λ l. let m = min (n - 64 * k) 64 in omega (arith, each k l, ones_lt m, pow_mono {i = m} {j = 64} (omega arith)))
        (λ l. omega (arith, get_or_past ws k 0 (omega arith))) (cases_lt k W)),
    (λ j e. let t = sym (member_ones j) ∙ e in omega (arith, ltb-true j n (and_parts _ _ t).0)),
  )
