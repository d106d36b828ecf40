-- The largest block that has i and not j is the part of i against j, and where there is none i alone is.
use Rattle.std.proofs.Common.{◌≡◌, ℕ, ◌+◌, ◌<◌, ◌≤◌, Bool, true, false, not, ◌&&◌, ltb, leb, subst, inl, inr, ⊎_elim, arith}
use Rattle.std.proofs.lemmas.Bool.{both_ways, cases_Bool, cases_eq, cases_lt}
use Rattle.std.proofs.lemmas.Bool.Decides.{nat_tests}
use Rattle.orders.proofs.Below.{refuted}
use Rattle.orders.proofs.Parts.{Together, block_together, shared_together, together_shared}
use Rattle.orders.specs.Check.{inside, together}
use Rattle.orders.specs.Sheets.{Inside, Outline, Outside, Rules}
use Rattle.sheet.specs.Masks.{IsPart}

-- the block a to b has i and not j
pub record Parts (s : Outline) (i j a b : ℕ) : Type 0 where
  pub block : s.block a b ≡ true
  pub has : Inside a b i
  pub lacks : Outside a b j

-- no such block begins below a
abbrev pub NoneBelow : Outline → ℕ → ℕ → ℕ → Type 0
NoneBelow s i j a = (c d : ℕ) → c < a → Parts s i j c d → ⊥

module _ (s : Outline) (rules : Rules s) (i j : ℕ) where
  by_together : (a b : ℕ) → ((x : ℕ) → Together s x i j → Inside a b x) → ((x : ℕ) → Inside a b x → Together s x i j) → IsPart s i j a b
  by_together a b to from x = ⊎_elim
      (λ h. let k = to x (together_shared s rules x i j h) in grind (arith, nat_tests))
      (λ h. let k = refuted (inside a b x) (λ g. both_ways _ h (shared_together s rules x i j (from x (grind (arith, nat_tests))))) in grind (arith, k))
      (cases_Bool (together s x i j))

  -- the first such block, and the longest of those that begin with it
  pub part_is_block : (a b : ℕ) → Parts s i j a b → NoneBelow s i j a → ((d : ℕ) → Parts s i j a d → d ≤ b) → IsPart s i j a b
  part_is_block a b p none most = by_together a b
      (λ x. ⊎_elim (λ (e, n). omega (arith, p.has))
      (λ c. within x c.a c.b (record { block = c.block; has = c.has_y; lacks = c.lacks }) c.has_x))
      (λ x h. block_together s x i j a b p.block h p.has p.lacks)
    where
      within : (x c d : ℕ) → Parts s i j c d → Inside c d x → Inside a b x
      within x c d q h =
          let earlier : a ≤ c = ⊎_elim (λ l. absurd (none c d l q)) (λ l. l) (cases_lt c a) in
          let longest : d ≤ b = ⊎_elim
          (λ e. most d (subst (λ (v : ℕ). Parts s i j v d) e q))
          (λ n. omega (arith, rules.nested a b c d p.block q.block, p.has, q.has)) (cases_eq c a) in
          omega (arith, h)

  pub part_is_step : (i ≡ j → ⊥) → NoneBelow s i j (i + 1) → IsPart s i j i i
  part_is_step other none = by_together i i
      (λ x. ⊎_elim (λ (e, n). omega arith)
      (λ c. absurd (none c.a c.b (omega (arith, c.has_y)) (record { block = c.block; has = c.has_y; lacks = c.lacks }))))
      (λ x h. inl (omega arith, λ e. other (omega arith)))

module _ (s : Outline) (room : (a b : ℕ) → s.block a b ≡ true → b < 128) (i j low high : ℕ) (limits : (a b : ℕ) → a ≤ i → i ≤ b → b < 128 → (leb low a && ltb b high) ≡ not (inside a b j)) where
  pub none_first : NoneBelow s i j low
  none_first a b l p =
      let k = limits a b p.has.0 p.has.1 (room a b p.block) in
      grind (arith, nat_tests, p.lacks)

  -- the last positions at which such blocks from a on are looked for
  module _ (a : ℕ) (first : low ≤ a) (last : a ≤ i) (looked : ℕ → Bool) (is : (b : ℕ) → looked b ≡ (s.block a b && (leb i b && ltb b high && ltb b 128))) where
    looked_parts : (b : ℕ) → looked b ≡ true → Parts s i j a b
    looked_parts b h =
        let e = is b in
        let far : i ≤ b = grind (arith, nat_tests) in
        let k = limits a b last far (grind (arith, nat_tests)) in
        record { block = grind (arith, h); has = (last, far); lacks = ⊎_elim inl (λ l. inr (grind (arith, nat_tests))) (cases_lt j a) }

    parts_looked : (b : ℕ) → Parts s i j a b → looked b ≡ true
    parts_looked b p =
        let e = is b in
        let k = limits a b last p.has.1 (room a b p.block) in
        grind (arith, nat_tests, p.block, p.lacks, room a b p.block)

    pub part_found : Rules s → NoneBelow s i j a → (b : ℕ) → looked b ≡ true → ((d : ℕ) → b < d → looked d ≡ false) → IsPart s i j a b
    part_found rules none b h most = part_is_block s rules i j a b (looked_parts b h) none
        (λ d p. ⊎_elim (λ l. absurd (both_ways _ (most d l) (parts_looked d p))) (λ l. l) (cases_lt b d))

    pub none_more : NoneBelow s i j a → ((b : ℕ) → looked b ≡ false) → NoneBelow s i j (a + 1)
    none_more none h c d l p = ⊎_elim
        (λ e. both_ways _ (h d) (parts_looked d (subst (λ (v : ℕ). Parts s i j v d) e p)))
        (λ n. none c d (omega arith) p) (cases_eq c a)
