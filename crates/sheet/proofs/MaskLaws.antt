-- The positions that go into the check.
use Rattle.std.proofs.Common.{◌≡◌, ℕ, ◌+◌, ◌<◌, ◌≤◌, Bool, false, ◌&&◌, ◌||◌, leb, ltb, ◌⊎◌, ⊎_elim, arith}
use Rattle.std.proofs.lemmas.Bool.{cases_Bool}
use Rattle.std.proofs.lemmas.Bool.Decides.{nat_tests}
use Rattle.orders.proofs.Below.{refuted}
use Rattle.orders.proofs.Parts.{together_shared}
use Rattle.orders.specs.Check.{forced, leads, together}
use Rattle.orders.specs.Sheets.{Outline, Rules}
use Rattle.sheet.specs.Masks.{AreForced, IsPart}

module _ (s : Outline) (rules : Rules s) where
  -- what is no position, or the same, has no part
  pub no_part : (i j : ℕ) → (s.size ≤ i) ⊎ (i ≡ j) → (x : ℕ) → (together s x i j && ltb x s.size) ≡ false
  no_part i j no-i x = refuted _ (λ h. ⊎_elim
      (λ (e, n). grind (arith, nat_tests))
      (λ c. omega (arith, rules.proper c.a c.b c.block, c.has_y, c.lacks))
      (together_shared s rules x i j (grind (arith, h))))

  -- the numbers of a part, between its ends
  pub part_between : (i j first last : ℕ) → i < s.size → IsPart s i j first last → last < 128 → (x : ℕ) → (leb first x && ltb x (last + 1) && ltb x 128) ≡ (together s x i j && ltb x s.size)
  part_between i j first last l part room x = ⊎_elim
      (λ h. let within : x < s.size = ⊎_elim (λ (e, n). omega arith) (λ c. omega (arith, rules.proper c.a c.b c.block, c.has_x)) (together_shared s rules x i j h) in grind (arith, nat_tests, part x))
      (λ h. grind (arith, nat_tests, part x))
      (cases_Bool (together s x i j))

  pub tied_within : (x y : ℕ) → s.size ≤ x → s.tied x y ≡ false
  tied_within x y l = refuted _ (λ h. omega (arith, rules.forward x y h))

  pub tied_to : (x y : ℕ) → s.size ≤ y → s.tied x y ≡ false
  tied_to x y l = refuted _ (λ h. omega (arith, rules.forward x y h))

  pub leads_end : (x p : ℕ) → p ≡ s.size → leads s x p ≡ ltb x s.size
  leads_end x p e = let t = tied_to x p (omega arith) in grind (arith, nat_tests)

  pub leads_tied : (x p : ℕ) → (p ≡ s.size → ⊥) → leads s x p ≡ s.tied x p
  leads_tied x p n = grind (arith, nat_tests, cases_Bool (s.tied x p))

  -- only positions are forced
  pub forced_within : (d x : ℕ) (p q ahead : Bool) → ((s.tied d x || (p && ltb x s.size)) && ((q && ltb x s.size) || ahead)) ≡ (ltb x s.size && ((s.tied d x || p) && (q || ahead)))
  forced_within d x p q ahead = ⊎_elim
      (λ h. grind (arith, nat_tests, cases_Bool p, cases_Bool q, cases_Bool (s.tied d x)))
      (λ h. let t = tied_to d x (grind (arith, nat_tests)) in grind (arith, nat_tests, cases_Bool p, cases_Bool q))
      (cases_Bool (ltb x s.size))

-- what is forced between d and p, among the positions
pub forced_is : (s : Outline) (d p x : ℕ) (set ahead : ℕ → Bool) → AreForced s d p ahead set → ((y : ℕ) → ahead y ≡ leads s y p) → x < s.size → set x ≡ forced s d p x
forced_is s d p x set ahead are is l =
    let e = are x in
    let k = is x in
    grind (arith, nat_tests, cases_Bool (s.tied d x), cases_Bool (together s x p d), cases_Bool (together s x d p), cases_Bool (leads s x p))
