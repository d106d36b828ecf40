-- The parts of two neighbours, and what comes along when they change places.
use Rattle.std.proofs.Common.{◌≡◌, ℕ, ◌-◌, ◌<◌, ◌≤◌, Bool, true, false, cond, not, ◌&&◌, ◌||◌, ltb, sym, refl, ap, ◌∙◌, inl, ⊎_elim, arith}
use Rattle.std.proofs.lemmas.Bool.{and_left, cases_Bool, cond_both, cases_lt, lt-ltb}
use Rattle.std.proofs.lemmas.Bool.Decides.{nat_tests}
use Rattle.orders.proofs.EditParts.{neighbours_meet}
use Rattle.orders.proofs.EditRuns.{is_inside}
use Rattle.orders.proofs.Parts.{shared_together}
use Rattle.orders.specs.Check.{inside, together}
use Rattle.orders.specs.Edits.{Neighbours, comes, covers, swapped}
use Rattle.orders.specs.Sheets.{Inside, Outline, Rules}
use Rattle.sets.proofs.Members.{member_room}
use Rattle.sets.specs.Member.{member}
use Rattle.sets.specs.declared.bits.BitSet.{BitSet}
use Rattle.sheet.specs.Masks.{IsPart}

-- runs with the same positions are the same
same_runs : (a b c d x : ℕ) → ((y : ℕ) → inside a b y ≡ inside c d y) → Inside a b x → (a ≡ c) × (b ≡ d)
same_runs a b c d x same h =
    let low = same a in
    let high = same b in
    let low' = same c in
    let high' = same d in
    let here = same x in
    (grind (arith, nat_tests), grind (arith, nat_tests))

-- what is known of a part that is found
abbrev Found : Outline → ℕ → ℕ → ℕ → ℕ → Type 0
Found s i j first last = (i < s.size) × (j < s.size) × (i ≡ j → ⊥) × IsPart s i j first last

module _ (s : Outline) (rules : Rules s) where
  own : (i j first last : ℕ) → (i ≡ j → ⊥) → IsPart s i j first last → Inside first last i
  own i j first last other part = is_inside first last i (sym (part i) ∙ shared_together s rules i i j (inl (refl, other)))

  -- the parts that are found are those that meet
  pub neighbours : (a i k b c d : ℕ) → 1 ≤ k → i ≡ k - 1 → Found s i k a c → Found s k i d b → Neighbours s a k b
  neighbours a i k b c d later is (_, position, _, left) (_, _, _, right) =
      let (a', b', meet) = neighbours_meet s rules k (omega arith) position in
      let at : (x : ℕ) → together s x (k - 1) k ≡ inside a c x = rw (← is) left in
      let behind : (x : ℕ) → together s x k (k - 1) ≡ inside d b x = rw (← is) right in
      let (e, f) = same_runs a c a' (k - 1) (k - 1) (λ x. sym (at x) ∙ meet.first x) (own (k - 1) k a c (λ e. omega arith) at) in
      let (g, h) = same_runs d b k b' k (λ x. sym (behind x) ∙ meet.second x) (own k (k - 1) d b (λ e. omega arith) behind) in
      record {
        later = omega arith;
        position = position;
        first = λ x. at x ∙ ap (λ v. inside a v x) f;
        second = λ x. behind x ∙ ap (λ v. inside v b x) g;
      }

module _ (a k b : ℕ) (left : a < k) (right : k ≤ b) (x : ℕ) where
  pub comes_lt : (n : ℕ) → b < n → x < n → comes a k b x < n
  comes_lt n size l = grind (arith, nat_tests)

  pub comes_room : (n : ℕ) → b < n → ltb (comes a k b x) n ≡ ltb x n
  comes_room n size = grind (arith, nat_tests)

  pub comes_past : b < x → comes a k b x ≡ x
  comes_past l = grind (arith, nat_tests)

-- what is carried of a set is below 128, as the set is
pub carried_all : (a k b : ℕ) → a < k → k ≤ b → b < 128 → (set : BitSet 2) (x : ℕ) → (ltb x 128 && member set.words (comes a k b x)) ≡ member set.words (comes a k b x)
carried_all a k b left right room set x = ⊎_elim
    (λ l. rw (lt-ltb x 128 l))
    (λ l. let e = comes_past a k b left right x (omega arith) in let f = member_room set x l in grind (arith, nat_tests))
    (cases_lt x 128)

-- no block begins past the room
pub blocks_past : (s : Outline) → ((i j : ℕ) → 128 ≤ i → s.block i j ≡ false) → (a k b : ℕ) → a < k → k ≤ b → b < 128 → (c d : ℕ) → 128 ≤ c → (swapped s a k b).block c d ≡ false
blocks_past s none a k b left right room c d l =
    let stays = none c d l in
    let goes = none (comes a k b c) (comes a k b d) (omega (arith, comes_past a k b left right c (omega arith))) in
    cond_both (covers c d a b) (s.block c d) (s.block (comes a k b c) (comes a k b d) && not (covers (comes a k b c) (comes a k b d) a b)) (λ (t : Bool). t ≡ false) (λ _. stays) (λ _. and_left _ _ goes)

-- p says that a block stays, q that one goes along, u and v that they have both runs, t that there is room
ends_law : (p q u v t : Bool) → (p ≡ true → t ≡ true) → (q ≡ true → t ≡ true) → (((q && not (v && t)) && not (u && t)) || (p && (u && t))) ≡ cond u p (q && not v)
ends_law p q u v t f g = grind (arith, cases_Bool p, cases_Bool q, cases_Bool u, cases_Bool v, cases_Bool t)

-- the blocks that have both runs and those that go along are the new blocks
pub ends_are : (s : Outline) → ((i j : ℕ) → s.block i j ≡ true → j < 128) → (a k b : ℕ) → a < k → k ≤ b → b < 128 → (c d from : ℕ) → from ≡ comes a k b c →
    (made along moving old leaving staying stood both : Bool) → made ≡ (along && not both || staying) → along ≡ moving → moving ≡ (old && not leaving) → old ≡ s.block from (comes a k b d) →
    leaving ≡ (covers from (comes a k b d) a b && ltb (comes a k b d) 128) → staying ≡ (stood && both) → stood ≡ s.block c d → both ≡ (covers c d a b && ltb d 128) → made ≡ (swapped s a k b).block c d
ends_are s small a k b left right room c d from e made along moving old leaving staying stood both e₀ e₁ e₂ e₃ e₄ e₅ e₆ e₇ =
    let far = comes_room a k b left right d 128 room in
    let law = ends_law (s.block c d) (s.block (comes a k b c) (comes a k b d)) (covers c d a b) (covers (comes a k b c) (comes a k b d) a b) (ltb d 128)
    (λ h. lt-ltb d 128 (small c d h)) (λ h. sym far ∙ lt-ltb (comes a k b d) 128 (small (comes a k b c) (comes a k b d) h)) in
    cc
