-- Parts that are runs of positions; the parts of two neighbours are.
use Rattle.std.proofs.Common.{◌≡◌, ℕ, suc, ◌-◌, ◌<◌, ◌≤◌, true, ◌⊎◌, sym, refl, ◌∙◌, inl, inr, ⊎_elim, arith}
use Rattle.std.proofs.lemmas.Bool.{cases_lt}
use Rattle.std.proofs.lemmas.Bool.Decides.{same_from_decides}
use Rattle.orders.proofs.EditRuns.{Nested, inside_is, is_inside, nests}
use Rattle.orders.proofs.Least.{known_true, least}
use Rattle.orders.proofs.Parts.{Shared, Together, block_together, shared_together, together_is, together_shared}
use Rattle.orders.specs.Check.{inside, together}
use Rattle.orders.specs.EditTheorems.{NeighboursMeet}
use Rattle.orders.specs.Sheets.{Inside, Outline, Outside, Rules, Within}

-- p to q is a member with y and without z: the position y or a block
abbrev Member : Outline → ℕ → ℕ → ℕ → ℕ → Type 0
Member s y z p q = ((p ≡ y) × (q ≡ y)) ⊎ ((s.block p q ≡ true) × Inside p q y × Outside p q z)

-- and the largest
pub record Largest (s : Outline) (y z p q : ℕ) : Type 0 where
  pub member : Member s y z p q
  pub holds : (c d : ℕ) → s.block c d ≡ true → Inside c d y → Outside c d z → Within p q c d

module _ (s : Outline) (rules : Rules s) where
  -- the largest member is the part
  pub is_part : (y z p q : ℕ) → (y ≡ z → ⊥) → Largest s y z p q → (x : ℕ) → together s x y z ≡ inside p q x
  is_part y z p q other l x = same_from_decides (together s x y z) (inside p q x) (together_is s rules x y z) (to l.member, from)
    where
      to : Member s y z p q → inside p q x ≡ true → Together s x y z
      to (inl (e, f)) h = let i = is_inside p q x h in inl (omega arith, λ g. other (omega arith))
      to (inr (k, i, o)) h = block_together s x y z p q k (is_inside p q x h) i o

      from : Together s x y z → inside p q x ≡ true
      from (inl (e, n)) = ⊎_elim
          (λ g. inside_is p q x (omega arith, omega arith))
          (λ g. inside_is p q x (omega arith, omega arith))
          l.member
      from (inr c) =
          let w = l.holds c.a c.b c.block c.has_y c.lacks in
          let i = c.has_x in
          inside_is p q x (omega arith, omega arith)

  -- a part that is a run is the largest member
  module _ (y z p q : ℕ) (other : y ≡ z → ⊥) (part : (x : ℕ) → together s x y z ≡ inside p q x) where
    has_own : Inside p q y
    has_own = is_inside p q y (sym (part y) ∙ shared_together s rules y y z (inl (refl, other)))

    part_holds : (c d : ℕ) → s.block c d ≡ true → Inside c d y → Outside c d z → Within p q c d
    part_holds c d h i o =
        let in-part : (x : ℕ) → Inside c d x → Inside p q x = λ x l. is_inside p q x (sym (part x) ∙ shared_together s rules x y z (block_together s x y z c d h l i o)) in
        omega (arith, in-part c (omega arith, omega arith), in-part d (omega arith, omega arith))

    whole : (x : ℕ) (c : Shared s x y z) → c.a ≤ p → q ≤ c.b → Member s y z p q
    whole x c l m =
        let w = part_holds c.a c.b c.block c.has_y c.lacks in
        let u : c.a ≡ p = omega arith in
        let v : c.b ≡ q = omega arith in
        inr (cc c.block, has_own, rw (u, v) at c.lacks)

    pub is_largest : Largest s y z p q
    is_largest = record { member = go (shares p (omega (arith, has_own), omega (arith, has_own))) (shares q (omega (arith, has_own), omega (arith, has_own))); holds = part_holds }
      where
        shares : (x : ℕ) → Inside p q x → Together s x y z
        shares x i = together_shared s rules x y z (part x ∙ inside_is p q x i)

        go : Together s p y z → Together s q y z → Member s y z p q
        go (inl e) (inl f) = inl (omega arith, omega arith)
        go (inl e) (inr c) = whole q c (omega (arith, c.has_y)) (omega (arith, c.has_x))
        go (inr c) (inl f) = whole p c (omega (arith, c.has_x)) (omega (arith, c.has_y))
        go (inr c) (inr d) =
            let n = rules.nested c.a c.b d.a d.b c.block d.block in
            ⊎_elim
            (λ l. whole q d (omega (arith, c.has_x, d.has_x)) (omega (arith, d.has_x)))
            (λ l. whole p c (omega (arith, c.has_x)) (omega (arith, c.has_y, d.has_y, d.has_x)))
            (cases_lt c.b q)

  -- it overlaps no block
  pub part_nested : (y z p q c d : ℕ) → Largest s y z p q → s.block c d ≡ true → Nested p q c d
  part_nested y z p q c d l h = ⊎_elim
      (λ e. nests p q c d (λ i j k. omega arith) (λ i j k. omega arith))
      (λ m. rules.nested p q c d m.0 h)
      l.member

  module _ (k : ℕ) (later : 0 < k) (position : k < s.size) where
    ends_here : (c d : ℕ) → s.block c d ≡ true → Inside c d (k - 1) → Outside c d k → s.block c (k - 1) ≡ true
    ends_here c d h i o = let e : d ≡ k - 1 = omega arith in cc (h)

    left : (a : ℕ) × Largest s (k - 1) k a (k - 1)
    left = ⊎_elim
        (λ l. (
          l.at,
          record {
            member = inr (l.holds, (omega (arith, rules.proper l.at (k - 1) l.holds), omega arith), inr (omega arith));
            holds = λ c d h i o. ⊎_elim (λ g. absurd (l.first c g (ends_here c d h i o))) (λ g. (g, omega arith)) (cases_lt c l.at);
          },
        ))
        (λ none. (
          k - 1,
          record {
            member = inl (refl, refl);
            holds = λ c d h i o. absurd (none c (omega (arith, rules.proper c d h)) (ends_here c d h i o));
          },
        ))
        (least (λ c. s.block c (k - 1) ≡ true) (λ c. known_true (s.block c (k - 1))) s.size)

    -- positions counted from the last, so that the least is the one furthest behind
    turned : ℕ → ℕ
    turned w = s.size - suc w

    begins_here : (c d : ℕ) → s.block c d ≡ true → Inside c d k → Outside c d (k - 1) → s.block k (turned (turned d)) ≡ true
    unfolding turned
    begins_here c d h i o =
        let e : c ≡ k = omega arith in
        let f : d ≡ turned (turned d) = omega (arith, rules.proper c d h) in
        cc (h)

    right : (b : ℕ) × Largest s k (k - 1) k b
    unfolding turned
    right = ⊎_elim
        (λ l. (
          turned l.at,
          record {
            member = inr (l.holds, (omega arith, omega (arith, rules.proper k (turned l.at) l.holds)), inl (omega arith));
            holds = λ c d h i o. ⊎_elim
                (λ g. absurd (l.first (turned d) g (begins_here c d h i o)))
                (λ g. (omega arith, omega (arith, rules.proper c d h)))
                (cases_lt (turned d) l.at);
          },
        ))
        (λ none. (
          k,
          record {
            member = inl (refl, refl);
            holds = λ c d h i o. absurd (none (turned d) (omega (arith, rules.proper c d h)) (begins_here c d h i o));
          },
        ))
        (least (λ w. s.block k (turned w) ≡ true) (λ w. known_true (s.block k (turned w))) s.size)

pub neighbours_meet : NeighboursMeet
neighbours_meet s rules k later position =
    let (a, l) = left s rules k later position in
    let (b, r) = right s rules k later position in (
      a,
      b,
      record {
        later = later;
        position = position;
        first = is_part s rules (k - 1) k a (k - 1) (λ e. omega arith) l;
        second = is_part s rules k (k - 1) k b (λ e. omega arith) r;
      },
    )
