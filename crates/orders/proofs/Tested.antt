-- A sheet whose ties and blocks are written out as pairs keeps the rules: a test that computes.
use Rattle.std.proofs.Common.{◌≡◌, ℕ, zero, suc, ◌<◌, ◌≤◌, Bool, true, false, not, ◌&&◌, ◌||◌, eqb, ltb, leb, List, [], ◌∷◌, sym, ◌∙◌, ⊎_elim, arith}
use Rattle.std.specs.List.{AllByRecursion}
use Rattle.std.proofs.lemmas.Bool.{and_parts, cases_eq, cases_lt, false≢true}
use Rattle.std.proofs.lemmas.Bool.Decides.{nat_tests}
use Rattle.orders.specs.Check.{inside}
use Rattle.orders.specs.Lists.{listed, paired}
use Rattle.orders.specs.Sheets.{Inside, Outside, Rules}
use Rattle.orders.proofs.Below.{refuted}
use Rattle.orders.proofs.EditRuns.{Nested, inside_is, outside_is}

-- a test of every entry, and of every number below n
abbrev pub all_pass : {X : Type 0} → (X → Bool) → List X → Bool
all_pass test [] = true
all_pass test (x ∷ xs) = test x && all_pass test xs

abbrev pub all_pairs : (ℕ → ℕ → Bool) → List (ℕ × ℕ) → Bool
all_pairs test = all_pass (λ p. test p.0 p.1)

abbrev pub all_below : ℕ → (ℕ → Bool) → Bool
all_below zero test = true
all_below (suc n) test = test n && all_below n test

-- where what passes is so, all are
pub all_hold : {X : Type 0} (test : X → Bool) (Is : X → Type 0) → ((x : X) → test x ≡ true → Is x) → (xs : List X) → all_pass test xs ≡ true → AllByRecursion Is xs
all_hold test Is passes [] t = tt
all_hold test Is passes (x ∷ xs) t = let both = and_parts (test x) (all_pass test xs) t in (passes x both.0, all_hold test Is passes xs both.1)

pub pair_at : (test : ℕ → ℕ → Bool) (ps : List (ℕ × ℕ)) (a b : ℕ) → all_pairs test ps ≡ true → paired ps a b ≡ true → test a b ≡ true
pair_at test [] a b t h = absurd (false≢true h)
pair_at test (p ∷ ps) a b t h = let more = pair_at test ps a b in grind (arith, nat_tests, t, h, more)

pub below_at : (n : ℕ) (test : ℕ → Bool) → all_below n test ≡ true → (k : ℕ) → k < n → test k ≡ true
below_at zero test t k h = absurd (omega arith)
below_at (suc n) test t k h = let more = below_at n test in grind (arith, nat_tests, t, more, cases_eq k n)

-- whether the numbers are below n
abbrev pub all_low : ℕ → List ℕ → Bool
all_low n = all_pass (λ x. ltb x n)

pub low_at : (n : ℕ) (xs : List ℕ) (p : ℕ) → all_low n xs ≡ true → listed xs p ≡ true → p < n
low_at n [] p t h = absurd (false≢true h)
low_at n (x ∷ xs) p t h = let more = low_at n xs p in grind (arith, nat_tests, t, h, more)

-- whether both are the same
abbrev pub alike : Bool → Bool → Bool
alike true c = c
alike false c = not c

pub alike_same : (b c : Bool) → alike b c ≡ true → b ≡ c
alike_same b c e = grind arith

abbrev pub rises : ℕ → ℕ → ℕ → Bool
rises n i j = ltb i j && ltb j n

pub two_below : (i j n : ℕ) → rises n i j ≡ true → (i < j) × (j < n)
two_below i j n e = (grind (arith, nat_tests, e), grind (arith, nat_tests, e))

abbrev uniform : ℕ → (ℕ → ℕ → Bool) → List (ℕ × ℕ) → Bool
uniform n rel blocks = all_pairs (λ a b. all_below n (λ i. inside a b i || all_below n (λ x. not (inside a b x) || alike (rel i x) (rel i a)))) blocks

abbrev links : List (ℕ × ℕ) → ℕ → ℕ → ℕ → ℕ → Bool
links ties i j k l = not (eqb j k) || paired ties i l

abbrev lie : ℕ → ℕ → ℕ → ℕ → Bool
lie a b c d = (ltb b c || ltb d a) || ((leb a c && leb d b) || (leb c a && leb b d))

-- a test of every two pairs
abbrev all_twos : (ℕ → ℕ → ℕ → ℕ → Bool) → List (ℕ × ℕ) → Bool
all_twos test ps = all_pairs (λ a b. all_pairs (test a b) ps) ps

abbrev pub keeps_rules : ℕ → List (ℕ × ℕ) → List (ℕ × ℕ) → Bool
keeps_rules n ties blocks =
    (all_pairs (rises n) ties && all_pairs (rises n) blocks)
    && (all_twos (links ties) ties
    && (all_twos lie blocks
    && (uniform n (paired ties) blocks && uniform n (λ i x. paired ties x i) blocks)))

two_at : (test : ℕ → ℕ → ℕ → ℕ → Bool) (ps : List (ℕ × ℕ)) (a b c d : ℕ) → all_twos test ps ≡ true → paired ps a b ≡ true → paired ps c d ≡ true → test a b c d ≡ true
two_at test ps a b c d t h g = pair_at (test a b) ps c d (pair_at (λ a b. all_pairs (test a b) ps) ps a b t h) g

apart_or_within : (a b c d : ℕ) → lie a b c d ≡ true → Nested a b c d
apart_or_within a b c d e = grind (arith, nat_tests, e)

uniform_at : (n : ℕ) (rel : ℕ → ℕ → Bool) (blocks : List (ℕ × ℕ)) → uniform n rel blocks ≡ true
    → (a b i x : ℕ) → paired blocks a b ≡ true → i < n → b < n → Outside a b i → Inside a b x → rel i x ≡ rel i a
uniform_at n rel blocks t a b i x block low last out within =
    let rows = rw (outside_is a b i out) at (below_at n _ (pair_at _ blocks a b t block) i low) in
    alike_same (rel i x) (rel i a) (rw (inside_is a b x within) at (below_at n _ rows x (omega arith)))

-- a relation to i that is the same over a run where i is low, and nothing where it is late
same_over : (n i a x y : ℕ) (b : ℕ) (rel : ℕ → Bool) → (n ≤ i → (z : ℕ) → rel z ≡ true → ⊥) → (i < n → (z : ℕ) → Inside a b z → rel z ≡ rel a) → Inside a b x → Inside a b y → rel x ≡ rel y
same_over n i a x y b rel late early in-x in-y =
    ⊎_elim (λ low. early low x in-x ∙ sym (early low y in-y)) (λ high. refuted (rel x) (late high x) ∙ sym (refuted (rel y) (late high y))) (cases_lt i n)

module _ (n : ℕ) (ties blocks : List (ℕ × ℕ)) (t : keeps_rules n ties blocks ≡ true) where
  -- the pairs rise and stay below the size
  pub rising : (all_pairs (rises n) ties ≡ true) × (all_pairs (rises n) blocks ≡ true)
  rising = and_parts (all_pairs (rises n) ties) _ (and_parts (all_pairs (rises n) ties && all_pairs (rises n) blocks) _ t).0

  pub rules_from_test : Rules (record { size = n; tied = paired ties; block = paired blocks })
  rules_from_test =
      let t₁ = and_parts (all_pairs (rises n) ties && all_pairs (rises n) blocks) _ t in
      let t₂ = and_parts (all_twos (links ties) ties) _ t₁.1 in
      let t₃ = and_parts (all_twos lie blocks) _ t₂.1 in
      let t₄ = and_parts (uniform n (paired ties) blocks) _ t₃.1 in
      let forward : (i j : ℕ) → paired ties i j ≡ true → (i < j) × (j < n) = λ i j h. two_below i j n (pair_at (rises n) ties i j rising.0 h) in
      let proper : (a b : ℕ) → paired blocks a b ≡ true → (a < b) × (b < n) = λ a b h. two_below a b n (pair_at (rises n) blocks a b rising.1 h) in
      record {
        forward = forward;
        chained = λ i j k h g. let l = two_at (links ties) ties i j j k t₂.0 h g in grind (arith, nat_tests, l);
        proper = proper;
        nested = λ a b c d h g. apart_or_within a b c d (two_at lie blocks a b c d t₃.0 h g);
        before = λ a b i x y block out in-x in-y. same_over n i a x y b (λ z. paired ties i z) (λ late z e. omega (arith, forward i z e))
            (λ low z in-z. uniform_at n (paired ties) blocks t₄.0 a b i z block low (proper a b block).1 out in-z) in-x in-y;
        behind = λ a b i x y block out in-x in-y. same_over n i a x y b (λ z. paired ties z i) (λ late z e. omega (arith, forward z i e))
            (λ low z in-z. uniform_at n (λ i x. paired ties x i) blocks t₄.1 a b i z block low (proper a b block).1 out in-z) in-x in-y;
      }
